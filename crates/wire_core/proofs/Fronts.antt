-- Fronts of messages, and the messages that they become.
use Rattle.std.proofs.Common.{◌≡◌, ℕ, ◌+◌, ◌<◌, ◌≤◌, ◌^◌, Bool, true, false, List, [], ◌∷◌, ◌++◌, length, take, drop, Option, Some, None, refl, sym, ap, ◌∙◌, subst, inl, inr, arith, append_assoc, append-nil, ⊎_elim}
use Rattle.std.specs.Prelude.{◌⊎◌}
use Rattle.std.proofs.lemmas.Bool.{cases_lt}
use Rattle.std.proofs.lemmas.List.{length-append, take-append-le, take_all, take-append-drop}
use Rattle.base_core.specs.declared.name.Name.{Name}
use Rattle.base_core.specs.declared.name.User.{User}
use Rattle.messages_core.specs.Fields.{int32, sized}
use Rattle.messages_core.specs.Frames.{WantsMore, HasPartOfBody}
use Rattle.messages_core.specs.Client.{body_of, spelling}
use Rattle.messages_core.specs.Kinds.{byte_of}
use Rattle.messages_core.specs.MessageReading.{IsPartOfMessage, nothing, typed}
use Rattle.messages_core.specs.declared.client.ClientMessage.{ClientMessage}
use Rattle.messages_core.proofs.Codecs.{wide32}
use Rattle.messages_core.proofs.Messages.{tail_is}
use Rattle.messages_core.proofs.Streams.{first_frame}
use Rattle.messages_core.specs.Client.{message_kind}
use Rattle.wire_core.specs.State.{ClientState, IsFront, IsFrontIn}

-- nothing is a front
nothing_front_in : (over : Bool) (user : Option User) (claimed : Option Name) → IsFrontIn over user claimed []
nothing_front_in true user claimed = refl
nothing_front_in false (Some user) claimed = nothing
nothing_front_in false None (Some name) = nothing
nothing_front_in false None None = inl (omega arith)

pub nothing_front : (client : ClientState) → IsFront client []
nothing_front client = nothing_front_in client.talk.over client.user client.claimed

-- what begins two lists begins the longer one of their fronts
front_begins : (kept piece first rest : List ℕ) → kept ++ piece ≡ first ++ rest → length first ≤ length kept
    → kept ≡ first ++ drop (length first) kept
front_begins kept piece first rest same longer =
    sym (take-append-drop (length first) kept)
    ∙ ap (λ (front : List ℕ). front ++ drop (length first) kept)
    (sym (take-append-le (length first) kept piece longer)
    ∙ (ap (take (length first)) same ∙ (take-append-le (length first) first rest (omega arith) ∙ take_all (length first) first (omega arith))))

module _ (least most : ℕ) (kept piece body rest : List ℕ) (same : kept ++ piece ≡ sized body ++ rest)
    (within : length body ≤ most) (fits : most + 4 < 2 ^ 31) where
  lengths : length kept + length piece ≡ length (sized body) + length rest
  lengths = sym (length-append kept piece) ∙ (ap length same ∙ length-append (sized body) rest)

  size_told : 4 ≤ length (sized body)
  size_told =
      let told = wide32.len (4 + length body) in
      let all = length-append (int32 (4 + length body)) body in
      omega (arith, told, all)

  -- a part of a body is shorter than any whole one that begins as it does
  part_of_body : HasPartOfBody least most kept → length (sized body) ≤ length kept → ⊥
  part_of_body part longer =
      let begins = front_begins kept piece (sized body) rest same longer in
      let behind = drop (length (sized body)) kept in
      let whole : sized body ++ (behind ++ part.more) ≡ sized part.body ++ []
      = sym (append_assoc (sized body) behind part.more)
      ∙ (ap (λ (front : List ℕ). front ++ part.more) (sym begins) ∙ (part.said ∙ sym (append-nil (sized part.body)))) in
      let part_within = part.within.1 in
      let none = (first_frame (0, body) (0, part.body) (behind ++ part.more) [] (omega (arith, within, fits)) (omega (arith, part_within, fits)) (ap (λ (b : List ℕ). 0 ∷ b) whole)).1 in
      let some = part.some in
      let count = length-append behind part.more in
      let nothing_left : length (behind ++ part.more) ≡ 0 = ap length none in
      omega (arith, some, count, nothing_left)

  pub wants_more : WantsMore least most kept → length rest < length piece
  wants_more (inl short) = let told = size_told in let sizes = lengths in omega (arith, short, told, sizes)
  wants_more (inr part) =
      ⊎_elim (λ less. let sizes = lengths in omega (arith, less, sizes))
      (λ more. absurd (part_of_body part (omega (arith, more))))
      (cases_lt (length kept) (length (sized body)))

-- and a part of a message, than the message
pub part_of_message : (most : ℕ) (kept piece rest : List ℕ) (message : ClientMessage)
    → kept ++ piece ≡ spelling message ++ rest → length (body_of message) ≤ most → most + 4 < 2 ^ 31
    → IsPartOfMessage most kept → length rest < length piece
part_of_message most _ piece rest message same within fits nothing =
    let sizes = ap length same ∙ length-append (spelling message) rest in
    omega (arith, sizes)
part_of_message most _ piece rest message same within fits (typed {behind} kind wants) =
    wants_more 0 most behind piece (body_of message) rest
    (tail_is (byte_of kind) (byte_of (message_kind message)) (behind ++ piece) (sized (body_of message) ++ rest) same).1
    within fits wants

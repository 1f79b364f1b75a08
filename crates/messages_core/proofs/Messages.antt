-- What stands first in bytes, and that it is one thing only.
use Rattle.std.proofs.Common.{◌≡◌, ◌≢◌, ℕ, ◌+◌, ◌-◌, ◌<◌, ◌≤◌, List, [], ◌∷◌, ◌++◌, length, get_or, take, drop, Some, None, refl, sym, ap, subst, ◌∙◌, append_assoc, arith}
use Rattle.std.proofs.lemmas.List.{take_at, drop_at, take_rest}
use Rattle.messages_core.specs.Fields.{int32, sized}
use Rattle.messages_core.specs.Frames.{HasBody, WantsMore, HasWrongLength}
use Rattle.messages_core.specs.Kinds.{byte_of, kind_at}
use Rattle.messages_core.specs.Client.{message_kind, body_of, spelling, IsMessage}
use Rattle.messages_core.specs.Bodies.{message_in}
use Rattle.messages_core.specs.MessageReading.{HasMessage, IsPartOfMessage, nothing, typed, HasWrongMessageLength, HasWrongBody}
use Rattle.messages_core.specs.declared.kinds.Kind.{Kind}
use Rattle.messages_core.specs.declared.client.ClientMessage.{ClientMessage}
use Rattle.messages_core.proofs.Codecs.{IsBytes, IsBytes-drop, IsBytes-take}
use Rattle.messages_core.proofs.KindLemmas.{kind_takes, same_kind}
use Rattle.messages_core.proofs.MessageBodies.{message_takes, message_again}

-- a body behind its length is that body
pub same_sized : (one other : List ℕ) → sized one ≡ sized other → one ≡ other
same_sized one other e =
    sym (drop_at (int32 (4 + length one)) one 4 refl) ∙ ap (drop 4) e ∙ drop_at (int32 (4 + length other)) other 4 refl

pub tail_is : (a b : ℕ) (xs ys : List ℕ) → a ∷ xs ≡ b ∷ ys → (a ≡ b) × (xs ≡ ys)
tail_is a b xs ys e = (cc, cc)

-- the bytes begin with the byte of this type
module _ (most : ℕ) (bytes : List ℕ) (byte : ℕ) (behind : List ℕ) (begins : bytes ≡ byte ∷ behind) (kind : Kind)
    (known : kind_at byte ≡ Some kind) where
  typed_bytes : bytes ≡ byte_of kind ∷ behind
  typed_bytes = begins ∙ ap (λ (b : ℕ). b ∷ behind) (kind_takes byte kind known)

  pub part_of : WantsMore 0 most behind → IsPartOfMessage most bytes
  part_of h = subst (IsPartOfMessage most) (sym typed_bytes) (typed kind h)

  pub wrong_length : HasWrongLength 0 most behind → HasWrongMessageLength most bytes
  wrong_length h = record { kind = kind; behind = behind; said = typed_bytes; wrong = h }

  module _ (body rest : List ℕ) (whole : HasBody 0 most behind body rest) where
    pub has_message : (message : ClientMessage) → IsBytes body → message_in kind body ≡ Some message → HasMessage most bytes message rest
    has_message message fits e =
        let t = message_takes kind body message fits e in
        record {
          said = typed_bytes ∙ ap (λ (b : List ℕ). byte_of kind ∷ b) whole.said
              ∙ ap (λ (k : Kind). byte_of k ∷ (sized body ++ rest)) (sym t.kind_is)
              ∙ ap (λ (b : List ℕ). byte_of (message_kind message) ∷ (sized b ++ rest)) t.body_is;
          is = (t.is, subst (λ (b : List ℕ). length b ≤ most) t.body_is whole.within.1);
        }

    no_message : message_in kind body ≡ None → (message : ClientMessage) → IsMessage message → spelling message ≢ byte_of kind ∷ sized body
    no_message none message is said =
        let parts = tail_is (byte_of (message_kind message)) (byte_of kind) (sized (body_of message)) (sized body) said in
        let kind_is : message_kind message ≡ kind = same_kind (message_kind message) kind parts.0 in
        let body_is : body_of message ≡ body = same_sized (body_of message) body parts.1 in
        let again : message_in kind body ≡ Some message =
        ap (λ (k : Kind). message_in k body) (sym kind_is) ∙ ap (message_in (message_kind message)) (sym body_is) ∙ message_again message is in
        absurd cc

    pub wrong_body : message_in kind body ≡ None → HasWrongBody most bytes
    wrong_body none = record {
      kind = kind;
      body = body;
      rest = rest;
      said = typed_bytes ∙ ap (λ (b : List ℕ). byte_of kind ∷ b) whole.said;
      within = whole.within;
      none = no_message none;
    }

-- the first byte and what is behind it
pub first_byte : (bytes : List ℕ) → 1 ≤ length bytes → bytes ≡ get_or bytes 0 0 ∷ take (length bytes - 1) (drop 1 bytes)
first_byte [] le = absurd (omega arith)
first_byte (x ∷ xs) le = ap (λ (behind : List ℕ). x ∷ behind) (sym (take_rest (x ∷ xs) 1))

pub behind_fits : (bytes : List ℕ) → IsBytes bytes → IsBytes (take (length bytes - 1) (drop 1 bytes))
behind_fits bytes fits = rw take_rest (IsBytes-drop 1 bytes fits)

-- nothing has come
pub nothing_came : (most : ℕ) (bytes : List ℕ) → length bytes < 1 → IsPartOfMessage most bytes
nothing_came most [] lt = nothing
nothing_came most (b ∷ bytes) lt = absurd (omega arith)

-- a body that was cut off is of bytes
pub body_fits : (least most : ℕ) (bytes body rest : List ℕ) → HasBody least most bytes body rest → IsBytes bytes → IsBytes body
body_fits least most bytes body rest whole fits =
    let told = 4 + length body in
    let behind : drop 4 bytes ≡ body ++ rest =
    ap (drop 4) (whole.said ∙ append_assoc (int32 told) body rest) ∙ drop_at (int32 told) (body ++ rest) 4 refl in
    let front : take (length body) (drop 4 bytes) ≡ body =
    ap (take (length body)) behind ∙ take_at body rest (length body) refl in
    subst IsBytes front (IsBytes-take (length body) (drop 4 bytes) (IsBytes-drop 4 bytes fits))

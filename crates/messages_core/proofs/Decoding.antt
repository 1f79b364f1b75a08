-- What stands first in bytes is one thing, and messages one after another are those and no others.
use Rattle.std.proofs.Common.{◌≡◌, ◌≢◌, ℕ, ◌+◌, ◌^◌, ◌<◌, List, [], ◌∷◌, ◌++◌, Option, Some, None, refl, sym, ap, subst, ◌∙◌, arith}
use Rattle.std.specs.List.{flat_map, AllByRecursion}
use Rattle.std.proofs.lemmas.List.Concat.{flat_map-cons}
use Rattle.messages_core.specs.Fields.{sized}
use Rattle.messages_core.specs.Frames.{HasBody}
use Rattle.messages_core.specs.Kinds.{byte_of, kind_at}
use Rattle.messages_core.specs.Cutting.{cut_of}
use Rattle.messages_core.specs.Client.{message_kind, body_of, spelling, IsMessage}
use Rattle.messages_core.specs.Bodies.{message_in}
use Rattle.messages_core.specs.MessageReading.{IsMessageWithin, IsPartOfMessage, nothing, typed, HasWrongBody, IsMessageReading}
use Rattle.messages_core.specs.declared.kinds.Kind.{Kind}
use Rattle.messages_core.specs.declared.frames.Cut.{Cut}
use Rattle.messages_core.specs.declared.frames.Cut.TheVariants as cuts
use Rattle.messages_core.specs.declared.client.ClientMessage.{ClientMessage}
use Rattle.messages_core.specs.declared.client.MessageFault.{MessageFault}
use Rattle.messages_core.specs.declared.client.MessageFault.TheVariants as faults
use Rattle.messages_core.specs.declared.reading.Reading.{Reading}
use Rattle.messages_core.specs.declared.reading.Reading.TheVariants as readings
use Rattle.messages_core.proofs.Codecs.{IsBytes}
use Rattle.messages_core.proofs.KindLemmas.{kind_again, kind_takes}
use Rattle.messages_core.proofs.MessageBodies.{message_again, message_takes}
use Rattle.messages_core.proofs.TextFields.{tail_fits}
use Rattle.messages_core.proofs.Cuts.{cut_only}
use Rattle.messages_core.proofs.Messages.{body_fits}

-- the one reading, step by step
abbrev of_body : List ℕ → Option ClientMessage → Reading ClientMessage MessageFault
of_body rest None = readings.Faulty faults.Body
of_body rest (Some message) = readings.Whole message rest

abbrev of_cut : Kind → Cut → Reading ClientMessage MessageFault
of_cut kind (cuts.Whole body rest) = of_body rest (message_in kind body)
of_cut kind cuts.Part = readings.Part
of_cut kind cuts.Faulty = readings.Faulty faults.Length

abbrev of_kind : ℕ → ℕ → List ℕ → Option Kind → Reading ClientMessage MessageFault
of_kind most byte behind None = readings.Faulty (faults.Type byte)
of_kind most byte behind (Some kind) = of_cut kind (cut_of 0 most behind)

abbrev the_reading : ℕ → List ℕ → Reading ClientMessage MessageFault
the_reading most [] = readings.Part
the_reading most (byte ∷ behind) = of_kind most byte behind (kind_at byte)

abbrev whole_of : ClientMessage → List ℕ → Reading ClientMessage MessageFault
whole_of message rest = readings.Whole message rest

same_parts : (one other : ClientMessage) (ones others : List ℕ) → whole_of one ones ≡ whole_of other others → (one ≡ other) × (ones ≡ others)
same_parts one other ones others e = (cc, cc)

no_kind : (byte : ℕ) → ((kind : Kind) → byte ≢ byte_of kind) → (read : Option Kind) → kind_at byte ≡ read → kind_at byte ≡ None
no_kind byte none None e = e
no_kind byte none (Some kind) e = absurd (none kind (kind_takes byte kind e))

none_in : (kind : Kind) (body : List ℕ) → ((message : ClientMessage) → IsMessage message → spelling message ≢ byte_of kind ∷ sized body)
    → IsBytes body → (read : Option ClientMessage) → message_in kind body ≡ read → message_in kind body ≡ None
none_in kind body none fits None e = e
none_in kind body none fits (Some message) e =
    let t = message_takes kind body message fits e in
    absurd (none message t.is (ap (λ (k : Kind). byte_of k ∷ sized (body_of message)) t.kind_is
    ∙ ap (λ (b : List ℕ). byte_of kind ∷ sized b) (sym t.body_is)))

module _ (most : ℕ) (small : most + 4 < 2 ^ 31) where
  -- behind the byte of a type
  behind_kind : (kind : Kind) (behind : List ℕ) (cut : Cut) → cut ≡ cut_of 0 most behind
      → the_reading most (byte_of kind ∷ behind) ≡ of_cut kind cut
  behind_kind kind behind cut e =
      ap (of_kind most (byte_of kind) behind) (kind_again kind) ∙ ap (of_cut kind) (sym e)

  -- behind a whole message's bytes
  pub whole_is : (message : ClientMessage) (rest : List ℕ) → IsMessageWithin most message
      → the_reading most (spelling message ++ rest) ≡ readings.Whole message rest
  whole_is message rest is =
      let whole : HasBody 0 most (sized (body_of message) ++ rest) (body_of message) rest =
      record { said = refl; within = (omega arith, is.1) } in
      behind_kind (message_kind message) (sized (body_of message) ++ rest) (cuts.Whole (body_of message) rest)
      (cut_only 0 most small (sized (body_of message) ++ rest) (cuts.Whole (body_of message) rest) whole)
      ∙ ap (of_body rest) (message_again message is.0)

  part_is : (bytes : List ℕ) → IsPartOfMessage most bytes → the_reading most bytes ≡ readings.Part
  part_is bytes nothing = refl
  part_is bytes (typed {behind} kind more) = behind_kind kind behind cuts.Part (cut_only 0 most small behind cuts.Part more)

  wrong_body_is : (bytes : List ℕ) → IsBytes bytes → HasWrongBody most bytes → the_reading most bytes ≡ readings.Faulty faults.Body
  wrong_body_is bytes fits h =
      let behind : List ℕ = sized h.body ++ h.rest in
      let whole : HasBody 0 most behind h.body h.rest = record { said = refl; within = h.within } in
      let behind_are : IsBytes behind = tail_fits (byte_of h.kind) behind (subst IsBytes h.said fits) in
      let body_are : IsBytes h.body = body_fits 0 most behind h.body h.rest whole behind_are in
      ap (the_reading most) h.said
      ∙ behind_kind h.kind behind (cuts.Whole h.body h.rest) (cut_only 0 most small behind (cuts.Whole h.body h.rest) whole)
      ∙ ap (of_body h.rest) (none_in h.kind h.body h.none body_are (message_in h.kind h.body) refl)

  reading_is : (bytes : List ℕ) (reading : Reading ClientMessage MessageFault) → IsBytes bytes → IsMessageReading most bytes reading
      → the_reading most bytes ≡ reading
  reading_is bytes (readings.Whole message rest) fits h = ap (the_reading most) h.said ∙ whole_is message rest h.is
  reading_is bytes readings.Part fits h = part_is bytes h
  reading_is bytes (readings.Faulty (faults.Type byte)) fits h =
      ap (the_reading most) h.said ∙ ap (of_kind most byte h.rest) (no_kind byte h.none (kind_at byte) refl)
  reading_is bytes (readings.Faulty faults.Length) fits h =
      ap (the_reading most) h.said ∙ behind_kind h.kind h.behind cuts.Faulty (cut_only 0 most small h.behind cuts.Faulty h.wrong)
  reading_is bytes (readings.Faulty faults.Body) fits h = wrong_body_is bytes fits h

  -- no two readings of bytes differ
  pub one_reading : (bytes : List ℕ) (one other : Reading ClientMessage MessageFault) → IsBytes bytes
      → IsMessageReading most bytes one → IsMessageReading most bytes other → one ≡ other
  one_reading bytes one other fits h k = sym (reading_is bytes one fits h) ∙ reading_is bytes other fits k

  -- no two lists of messages are spelled alike
  pub one_list_of_messages : (ones others : List ClientMessage) → AllByRecursion (IsMessageWithin most) ones
      → AllByRecursion (IsMessageWithin most) others → flat_map spelling ones ≡ flat_map spelling others → ones ≡ others
  one_list_of_messages [] [] h k e = refl
  one_list_of_messages [] (other ∷ others) h k e =
      let f : [] ≡ spelling other ++ flat_map spelling others = e ∙ flat_map-cons spelling other others in
      absurd cc
  one_list_of_messages (one ∷ ones) [] h k e =
      let f : spelling one ++ flat_map spelling ones ≡ [] = sym (flat_map-cons spelling one ones) ∙ e in
      absurd cc
  one_list_of_messages (one ∷ ones) (other ∷ others) h k e =
      let f : spelling one ++ flat_map spelling ones ≡ spelling other ++ flat_map spelling others =
      sym (flat_map-cons spelling one ones) ∙ e ∙ flat_map-cons spelling other others in
      let same : whole_of one (flat_map spelling ones) ≡ whole_of other (flat_map spelling others) =
      sym (whole_is one (flat_map spelling ones) h.0) ∙ ap (the_reading most) f ∙ whole_is other (flat_map spelling others) k.0 in
      let parts = same_parts one other (flat_map spelling ones) (flat_map spelling others) same in
      ap (λ (m : ClientMessage). m ∷ ones) parts.0
      ∙ ap (λ (ms : List ClientMessage). other ∷ ms) (one_list_of_messages ones others h.1 k.1 parts.1)

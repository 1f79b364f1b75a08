-- What stands first in a client's first bytes is one thing.
use Rattle.std.proofs.Common.{◌≡◌, ℕ, ◌+◌, ◌^◌, ◌<◌, List, ◌++◌, Some, refl, sym, ap, subst, ◌∙◌, arith}
use Rattle.std.specs.Int.{w32}
use Rattle.messages_core.specs.Fields.{int32, IsNumber32}
use Rattle.messages_core.specs.Reading.{number_at}
use Rattle.messages_core.specs.Start.{start_code, fields_of, start_body, IsStart}
use Rattle.messages_core.specs.StartReading.{IsWrongStart, IsStartReading}
use Rattle.messages_core.specs.Bodies.{cancel_in}
use Rattle.messages_core.specs.declared.frames.Cut.{Cut}
use Rattle.messages_core.specs.declared.frames.Cut.TheVariants as cuts
use Rattle.messages_core.specs.declared.start.StartMessage.{StartMessage}
use Rattle.messages_core.specs.declared.start.StartMessage.TheVariants as starts
use Rattle.messages_core.specs.declared.start.StartFault.{StartFault}
use Rattle.messages_core.specs.declared.start.StartFault.TheVariants as faults
use Rattle.messages_core.specs.declared.reading.Reading.{Reading}
use Rattle.messages_core.specs.declared.reading.Reading.TheVariants as readings
use Rattle.messages_core.proofs.Codecs.{some_is}
use Rattle.messages_core.proofs.TextFields.{number32}
use Rattle.messages_core.proofs.BodyFields.{cancel_in_body}
use Rattle.messages_core.proofs.Stops.{one_list_of_parameters}
use Rattle.messages_core.proofs.Cuts.{IsCut, cut_only}

-- what a reading says of what was cut off
abbrev AgreesWith : Cut → Reading StartMessage StartFault → Type 0
AgreesWith (cuts.Whole body rest) (readings.Whole start behind) = IsStart start × (body ≡ start_body start) × (rest ≡ behind)
AgreesWith (cuts.Whole body rest) readings.Part = ⊥
AgreesWith (cuts.Whole body rest) (readings.Faulty fault) = IsWrongStart body fault
AgreesWith cuts.Part (readings.Whole start behind) = ⊥
AgreesWith cuts.Part readings.Part = Unit {0}
AgreesWith cuts.Part (readings.Faulty fault) = ⊥
AgreesWith cuts.Faulty (readings.Whole start behind) = ⊥
AgreesWith cuts.Faulty readings.Part = ⊥
AgreesWith cuts.Faulty (readings.Faulty faults.Length) = Unit {0}
AgreesWith cuts.Faulty (readings.Faulty (faults.Code told)) = ⊥
AgreesWith cuts.Faulty (readings.Faulty faults.Body) = ⊥

agreed : (most : ℕ) (bytes : List ℕ) (reading : Reading StartMessage StartFault) → IsStartReading most bytes reading
    → (cut : Cut) × IsCut 4 most bytes cut × AgreesWith cut reading
agreed most bytes (readings.Whole start rest) h = (cuts.Whole (start_body start) rest, h.1, (h.0, refl, refl))
agreed most bytes readings.Part h = (cuts.Part, h, tt)
agreed most bytes (readings.Faulty faults.Length) h = (cuts.Faulty, h, tt)
agreed most bytes (readings.Faulty (faults.Code told)) h = (cuts.Whole h.body h.rest, h.whole, h.wrong)
agreed most bytes (readings.Faulty faults.Body) h = (cuts.Whole h.body h.rest, h.whole, h.wrong)

-- the number and the fields of a body
same_fields : (body : List ℕ) (code code' : ℕ) (fields fields' : List ℕ) → IsNumber32 code → IsNumber32 code'
    → body ≡ int32 code ++ fields → body ≡ int32 code' ++ fields' → (code ≡ code') × (fields ≡ fields')
same_fields body code code' fields fields' n n' e e' =
    let one : number_at w32 body ≡ Some (code, fields) = ap (number_at w32) e ∙ number32.again code fields n in
    let other : number_at w32 body ≡ Some (code', fields') = ap (number_at w32) e' ∙ number32.again code' fields' n' in
    let both : (code, fields) ≡ (code', fields') = some_is (code, fields) (code', fields') (sym one ∙ other) in
    (ap (λ (x : ℕ × List ℕ). x.0) both, ap (λ (x : ℕ × List ℕ). x.1) both)

code_fits : (start : StartMessage) → IsNumber32 (start_code start)
code_fits starts.SslRequest = omega arith
code_fits starts.GssEncRequest = omega arith
code_fits (starts.CancelRequest process secret) = omega arith
code_fits (starts.Startup parameters) = omega arith

-- no two messages have one number and the same fields
same_start : (one other : StartMessage) → IsStart one → IsStart other → start_code one ≡ start_code other → fields_of one ≡ fields_of other
    → one ≡ other
same_start starts.SslRequest starts.SslRequest h k e f = refl
same_start starts.SslRequest starts.GssEncRequest h k e f = absurd (omega arith)
same_start starts.SslRequest (starts.CancelRequest p' s') h k e f = absurd (omega arith)
same_start starts.SslRequest (starts.Startup ps') h k e f = absurd (omega arith)
same_start starts.GssEncRequest starts.SslRequest h k e f = absurd (omega arith)
same_start starts.GssEncRequest starts.GssEncRequest h k e f = refl
same_start starts.GssEncRequest (starts.CancelRequest p' s') h k e f = absurd (omega arith)
same_start starts.GssEncRequest (starts.Startup ps') h k e f = absurd (omega arith)
same_start (starts.CancelRequest p s) starts.SslRequest h k e f = absurd (omega arith)
same_start (starts.CancelRequest p s) starts.GssEncRequest h k e f = absurd (omega arith)
same_start (starts.CancelRequest p s) (starts.CancelRequest p' s') h k e f =
    let read = cancel_in_body.again (p, s) h in
    let read' = cancel_in_body.again (p', s') k in
    let both : (p, s) ≡ (p', s') = some_is (p, s) (p', s') (sym read ∙ ap cancel_in f ∙ read') in
    ap (λ (x : ℕ × ℕ). starts.CancelRequest x.0 x.1) both
same_start (starts.CancelRequest p s) (starts.Startup ps') h k e f = absurd (omega arith)
same_start (starts.Startup ps) starts.SslRequest h k e f = absurd (omega arith)
same_start (starts.Startup ps) starts.GssEncRequest h k e f = absurd (omega arith)
same_start (starts.Startup ps) (starts.CancelRequest p' s') h k e f = absurd (omega arith)
same_start (starts.Startup ps) (starts.Startup ps') h k e f = ap (λ (qs : List (List ℕ × List ℕ)). starts.Startup qs) (one_list_of_parameters ps ps' h k f)

-- of one body
module _ (body : List ℕ) where
  starts_agree : (one other : StartMessage) → IsStart one → IsStart other → body ≡ start_body one → body ≡ start_body other → one ≡ other
  starts_agree one other h k e f =
      let same = same_fields body (start_code one) (start_code other) (fields_of one) (fields_of other) (code_fits one) (code_fits other) e f in
      same_start one other h k same.0 same.1

  start_or_fault : (start : StartMessage) (fault : StartFault) → IsStart start → body ≡ start_body start → IsWrongStart body fault → ⊥
  start_or_fault start faults.Length h e w = w.wrong
  start_or_fault start (faults.Code told) h e w =
      w.wrong.1 start (same_fields body w.code (start_code start) w.fields (fields_of start) w.number (code_fits start) w.said e).0
  start_or_fault start faults.Body h e w =
      let same = same_fields body w.code (start_code start) w.fields (fields_of start) w.number (code_fits start) w.said e in
      w.wrong.none start h same.0 same.1

  known_or_not : (w : IsWrongStart body faults.Body) (told : ℕ) (v : IsWrongStart body (faults.Code told)) → ⊥
  known_or_not w told v =
      let same = same_fields body v.code w.code v.fields w.fields v.number w.number v.said w.said in
      v.wrong.1 w.wrong.start (same.0 ∙ w.wrong.code_is)

  faults_agree : (one other : StartFault) → IsWrongStart body one → IsWrongStart body other → one ≡ other
  faults_agree faults.Length other w v = absurd w.wrong
  faults_agree (faults.Code told) faults.Length w v = absurd v.wrong
  faults_agree (faults.Code told) (faults.Code told') w v =
      let same = same_fields body w.code v.code w.fields v.fields w.number v.number w.said v.said in
      ap (λ (n : ℕ). faults.Code n) (w.wrong.0 ∙ same.0 ∙ sym v.wrong.0)
  faults_agree (faults.Code told) faults.Body w v = absurd (known_or_not v told w)
  faults_agree faults.Body faults.Length w v = absurd v.wrong
  faults_agree faults.Body (faults.Code told) w v = absurd (known_or_not w told v)
  faults_agree faults.Body faults.Body w v = refl

-- of one cut
one_agrees : (cut : Cut) (one other : Reading StartMessage StartFault) → AgreesWith cut one → AgreesWith cut other → one ≡ other
one_agrees (cuts.Whole body rest) (readings.Whole start behind) (readings.Whole start' behind') h k =
    ap (λ (m : StartMessage). readings.Whole m behind) (starts_agree body start start' h.0 k.0 h.1 k.1)
    ∙ ap (λ (b : List ℕ). readings.Whole start' b) (sym h.2 ∙ k.2)
one_agrees (cuts.Whole body rest) (readings.Whole start behind) readings.Part h k = absurd k
one_agrees (cuts.Whole body rest) (readings.Whole start behind) (readings.Faulty fault) h k = absurd (start_or_fault body start fault h.0 h.1 k)
one_agrees (cuts.Whole body rest) readings.Part other h k = absurd h
one_agrees (cuts.Whole body rest) (readings.Faulty fault) (readings.Whole start behind) h k = absurd (start_or_fault body start fault k.0 k.1 h)
one_agrees (cuts.Whole body rest) (readings.Faulty fault) readings.Part h k = absurd k
one_agrees (cuts.Whole body rest) (readings.Faulty fault) (readings.Faulty fault') h k =
    ap (λ (f : StartFault). readings.Faulty f) (faults_agree body fault fault' h k)
one_agrees cuts.Part (readings.Whole start behind) other h k = absurd h
one_agrees cuts.Part readings.Part (readings.Whole start behind) h k = absurd k
one_agrees cuts.Part readings.Part readings.Part h k = refl
one_agrees cuts.Part readings.Part (readings.Faulty fault) h k = absurd k
one_agrees cuts.Part (readings.Faulty fault) other h k = absurd h
one_agrees cuts.Faulty (readings.Whole start behind) other h k = absurd h
one_agrees cuts.Faulty readings.Part other h k = absurd h
one_agrees cuts.Faulty (readings.Faulty faults.Length) (readings.Whole start behind) h k = absurd k
one_agrees cuts.Faulty (readings.Faulty faults.Length) readings.Part h k = absurd k
one_agrees cuts.Faulty (readings.Faulty faults.Length) (readings.Faulty faults.Length) h k = refl
one_agrees cuts.Faulty (readings.Faulty faults.Length) (readings.Faulty (faults.Code told)) h k = absurd k
one_agrees cuts.Faulty (readings.Faulty faults.Length) (readings.Faulty faults.Body) h k = absurd k
one_agrees cuts.Faulty (readings.Faulty (faults.Code told)) other h k = absurd h
one_agrees cuts.Faulty (readings.Faulty faults.Body) other h k = absurd h

-- no two readings of bytes differ
pub one_start : (most : ℕ) → most + 4 < 2 ^ 31 → (bytes : List ℕ) (one other : Reading StartMessage StartFault)
    → IsStartReading most bytes one → IsStartReading most bytes other → one ≡ other
one_start most small bytes one other h k =
    let a = agreed most bytes one h in
    let b = agreed most bytes other k in
    let same : b.0 ≡ a.0 = cut_only 4 most small bytes b.0 b.1 ∙ sym (cut_only 4 most small bytes a.0 a.1) in
    one_agrees a.0 one other a.2 (subst (λ (cut : Cut). AgreesWith cut other) same b.2)

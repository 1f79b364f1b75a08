-- The byte of the text from which a byte of its line came.
use mathlib.Core.Logic.{⊎_elim}
use Rattle.std.proofs.Common.{◌≡◌, ℕ, pos, zero, suc, ◌+◌, ◌-◌, ◌<◌, min, Bool, true, false, not, ◌&&◌, None, List, [], ◌∷◌, ◌++◌, length, get_or, refl, sym, ◌∙◌, ap, subst, arith, length-append, inl, inr}
use Rattle.std.specs.Prelude.{slice_index, if◌then◌else◌}
use Rattle.std.proofs.lemmas.Bool.{cases_lt, and_parts}
use Rattle.std.proofs.lemmas.Fmt.{decimal_digit}
use Rattle.std.proofs.lemmas.List.{get_or_append_left, get_or-append-add}
use Rattle.lexer_core.specs.Lexing.{Number}
use Rattle.printer_core.specs.Printing.{lexeme_text}
use Rattle.parameters_core.specs.Statements.{inside_behind, is_line_end}
use Rattle.parameters_core.specs.Places.{Part, BeginsPart, AreParts}
use Rattle.parameters_core.specs.Filling.{line_bytes, as_line, filled, value_of_place, ones}
use Rattle.parameters_core.specs.Positions.{origin, IsSource}
use Rattle.parameters_core.specs.Putting.{says_by}
use Rattle.parameters_core.proofs.AlongText.{origin_before, origin_at, origin_past}
use Rattle.parameters_core.proofs.FilledLines.{length-line, same_ones}
use Rattle.parameters_core.proofs.Fronts.{dollar_first}

source_by : (inside : Bool) (b : ℕ) (blank : Bool) → (is_line_end b && not inside) ≡ blank → IsSource b (if blank then 32 else b)
source_by inside b true e = inr (inl ((and_parts (is_line_end b) (not inside) e).0, refl))
source_by inside b false e = inl refl

in_segment : (inside : Bool) (bytes : List ℕ) (k : ℕ) → k < length bytes → IsSource (get_or bytes k 0) (get_or (line_bytes inside bytes) k 0)
in_segment inside [] k h = absurd (omega (arith, h))
in_segment inside (b ∷ bs) zero h = source_by inside b (is_line_end b && not inside) refl
in_segment inside (b ∷ bs) (suc k) h = in_segment (inside_behind inside b) bs k (omega (arith, h))

one_literal : lexeme_text (Number (pos 1)) ≡ 49 ∷ []
one_literal = decimal_digit 1 (omega arith)

module _ (part : Part) (rest text line : List ℕ) (b : BeginsPart text part rest) where
  abbrev segment : List ℕ
  segment = part.segment

  abbrev whole : List ℕ
  whole = as_line segment ++ (32 ∷ (49 ∷ (32 ∷ line)))

  size : length (as_line segment) ≡ length segment
  size = length-line false segment

  before : (k : ℕ) → k < length segment → IsSource (get_or text k 0) (get_or whole k 0)
  before k h =
      let there : get_or segment k 0 ≡ get_or text k 0 = sym (ap (λ (bytes : List ℕ). get_or bytes k 0) b.split ∙ get_or_append_left segment (part.place ++ rest) 0 k h) in
      let here : get_or (as_line segment) k 0 ≡ get_or whole k 0 = sym (get_or_append_left (as_line segment) (32 ∷ (49 ∷ (32 ∷ line))) 0 k (omega (arith, h, size))) in
      subst (λ (x : ℕ). IsSource x (get_or whole k 0)) there (subst (IsSource (get_or segment k 0)) here (in_segment false segment k h))

  at_place : (k w : ℕ) → k ≡ length segment → IsSource (get_or text k 0) w
  at_place k w e =
      let n : k ≡ length segment + 0 = omega (arith, e) in
      inr (inr (ap (λ (bytes : List ℕ). get_or bytes k 0) b.split
      ∙ (ap (λ (j : ℕ). get_or (segment ++ (part.place ++ rest)) j 0) n
      ∙ (get_or-append-add segment (part.place ++ rest) 0 0 ∙ dollar_first part.place rest b.is_place))))

  text_behind : (j : ℕ) → get_or text (length segment + (length part.place + j)) 0 ≡ get_or rest j 0
  text_behind j =
      ap (λ (bytes : List ℕ). get_or bytes (length segment + (length part.place + j)) 0) b.split
      ∙ (get_or-append-add segment (part.place ++ rest) (length part.place + j) 0 ∙ get_or-append-add part.place rest j 0)

  line_behind : (k j : ℕ) → k ≡ length (as_line segment) + suc (suc (suc j)) → get_or whole k 0 ≡ get_or line j 0
  line_behind k j e = ap (λ (i : ℕ). get_or whole i 0) e ∙ get_or-append-add (as_line segment) (32 ∷ (49 ∷ (32 ∷ line))) (suc (suc (suc j))) 0

-- ---- along the parts
sources : (text : List ℕ) (parts : List Part) (last : List ℕ) (k : ℕ) → AreParts text parts last → k < length (filled (says_by None) parts last) → IsSource (get_or text (origin parts last k) 0) (get_or (filled (says_by None) parts last) k 0)
sources text [] last k a h =
    let inside : k < length last = omega (arith, h, length-line false last) in
    let place : k ≡ min k (length last) = omega (arith, inside) in
    let there : get_or last k 0 ≡ get_or text (min k (length last)) 0 = ap (λ (bytes : List ℕ). get_or bytes k 0) (sym a.0) ∙ ap (λ (i : ℕ). get_or text i 0) place in
    subst (λ (x : ℕ). IsSource x (get_or (as_line last) k 0)) there (in_segment false last k inside)
sources text (part ∷ parts) last k a h =
    let line = filled (says_by None) parts last in
    let whole = as_line part.segment ++ (32 ∷ (49 ∷ (32 ∷ line))) in
    let made : whole ≡ filled (says_by None) (part ∷ parts) last = ap (λ (literal : List ℕ). as_line part.segment ++ (32 ∷ (literal ++ (32 ∷ line)))) (sym one_literal) in
    let n = length part.segment in
    let sized : length whole ≡ length (as_line part.segment) + (3 + length line) = omega (arith, length-append (as_line part.segment) (32 ∷ (49 ∷ (32 ∷ line)))) in
    let inside : k < length whole = subst (λ (bytes : List ℕ). k < length bytes) (sym made) h in
    let same = length-line false part.segment in
    subst (λ (bytes : List ℕ). IsSource (get_or text (origin (part ∷ parts) last k) 0) (get_or bytes k 0)) made
    (⊎_elim
    (λ less. subst (λ (i : ℕ). IsSource (get_or text i 0) (get_or whole k 0)) (sym (origin_before part parts last k less)) (before part a.0 text line a.1 k less))
    (λ more. ⊎_elim
    (λ near. at_place part a.0 text line a.1 (origin (part ∷ parts) last k) (get_or whole k 0) (origin_at part parts last k more near))
    (λ far.
    let j = k - n - 3 in
    let is : k ≡ length (as_line part.segment) + suc (suc (suc j)) = omega (arith, more, far, same) in
    let there = sources a.0 parts last j a.2 (omega (arith, inside, sized, is)) in
    let from : get_or a.0 (origin parts last j) 0 ≡ get_or text (origin (part ∷ parts) last k) 0 = sym (ap (λ (i : ℕ). get_or text i 0) (origin_past part parts last k more far) ∙ text_behind part a.0 text line a.1 (origin parts last j)) in
    subst (λ (x : ℕ). IsSource x (get_or whole k 0)) from (subst (IsSource (get_or a.0 (origin parts last j) 0)) (sym (line_behind part a.0 text line a.1 k j is)) there))
    (cases_lt (k - n) 3))
    (cases_lt k n))

pub each_source : (text : List ℕ) (parts : List Part) (last : List ℕ) (k : ℕ) → AreParts text parts last → k < length (filled (value_of_place ones) parts last) → IsSource (slice_index text (origin parts last k)) (slice_index (filled (value_of_place ones) parts last) k)
each_source text parts last k a h =
    let same = same_ones text parts last a in
    subst (λ (line : List ℕ). IsSource (get_or text (origin parts last k) 0) (get_or line k 0)) same
    (sources text parts last k a (subst (λ (line : List ℕ). k < length line) (sym same) h))

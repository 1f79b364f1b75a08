-- How far a text is filled.
use Rattle.std.proofs.Common.{◌≡◌, ℕ, ◌+◌, ◌<◌, ◌≤◌, List, [], ◌∷◌, ◌++◌, Option, Some, None, length, refl, sym, ◌∙◌, ap, subst, arith, append_assoc, length-append}
use Rattle.base_core.specs.declared.value.Value.{Value}
use Rattle.printer_core.specs.Printing.{lexeme_text}
use Rattle.parameters_core.specs.declared.fault.FillFault.{FillFault}
use Rattle.parameters_core.specs.declared.fault.FillFault.TheVariants as faults
use Rattle.parameters_core.specs.Places.{HasNoPlace, Part, BeginsPart, AreParts, IsGreatestNumber, greatest_number, place_number}
use Rattle.parameters_core.specs.Filling.{as_line, filled, IsFilled, IsFillFault, ones}
use Rattle.parameters_core.specs.Putting.{IsPut, IsPutFault, AreEnough, HasValue, IsFilledBy, IsFilledByFault, says_by, parted}
use Rattle.parameters_core.proofs.EachText.{each_text}
use Rattle.parameters_core.proofs.FilledLines.{greatest_once, same_ones, enough_ones, line_once, not_both}

-- the line is filled but for the rest of the text
pub record SoFar (vs : Option (List Value)) (text rest line : List ℕ) : Type 0 where
  pub short : length line ≤ 4096
  pub on : (ps : List Part) (last : List ℕ) → AreParts rest ps last → (qs : List Part) × AreParts text qs last
      × (filled (says_by vs) qs last ≡ line ++ filled (says_by vs) ps last) × (greatest_number ps ≤ greatest_number qs)

pub nothing_yet : (vs : Option (List Value)) (text : List ℕ) → SoFar vs text text []
nothing_yet vs text = record { short = omega arith; on = λ ps last a. (ps, a, refl, omega arith) }

regroup : (line s l f : List ℕ) → ((line ++ s) ++ (32 ∷ (l ++ 32 ∷ []))) ++ f ≡ line ++ (s ++ (32 ∷ (l ++ (32 ∷ f))))
regroup line s l f =
    append_assoc (line ++ s) (32 ∷ (l ++ 32 ∷ [])) f
    ∙ (append_assoc line s ((32 ∷ (l ++ 32 ∷ [])) ++ f) ∙ ap (λ (z : List ℕ). line ++ (s ++ (32 ∷ z))) (append_assoc l (32 ∷ []) f))

module _ (vs : Option (List Value)) (text rest line : List ℕ) (s : SoFar vs text rest line) where
  -- a line that the rest would make too long
  too_long : (ps : List Part) (last : List ℕ) (n : ℕ) → AreParts rest ps last → n ≤ length (filled (says_by vs) ps last) → 4096 < length line + n → (whole : List ℕ) × IsFilledBy text vs whole × (4096 < length whole)
  too_long ps last n a h more =
      let r = s.on ps last a in
      let made = filled (says_by vs) r.0 last in
      (made, record { parts = r.0; last = last; cut = r.1; whole = refl }, omega (arith, h, more, ap length r.2, length-append line (filled (says_by vs) ps last)))

  fault_by : (ps : List Part) (last : List ℕ) (n : ℕ) (e : FillFault) → AreParts rest ps last → n ≤ length (filled (says_by vs) ps last) → IsPutFault (length line + n) e → IsFilledByFault text vs e
  fault_by ps last n faults.NoMemory a h f = tt
  fault_by ps last n faults.TooLong a h f = too_long ps last n a h f
  fault_by ps last n (faults.NoValue k) a h f = f

  -- ---- at the end
  pub filled_all : (new : List ℕ) → HasNoPlace rest → IsPut (as_line rest) line new → IsFilledBy text vs new
  filled_all new none p = let r = s.on [] rest (refl, none) in record { parts = r.0; last = rest; cut = r.1; whole = p.joined ∙ sym r.2 }

  pub fault_at_end : (e : FillFault) → HasNoPlace rest → IsPutFault (length line + length (as_line rest)) e → IsFilledByFault text vs e
  fault_at_end e none f = fault_by [] rest (length (as_line rest)) e (refl, none) (omega arith) f

  -- ---- at a place
  module _ (part : Part) (tail : List ℕ) (b : BeginsPart rest part tail) where
    pub has_value : AreEnough text vs → (1 ≤ place_number part.place) → HasValue vs (place_number part.place)
    has_value enough low = by vs s enough
      where
        by : (us : Option (List Value)) → SoFar us text rest line → AreEnough text us → HasValue us (place_number part.place)
        by None t all = tt
        by (Some xs) t all =
            let cut = each_text tail in
            let r = t.on (part ∷ cut.0) cut.1 (tail, b, cut.2) in
            let most = all r.0 cut.1 r.1 in
            let here : place_number part.place ≤ greatest_number (part ∷ cut.0) = omega arith in
            (low, omega (arith, most, r.3, here))

    pub one_more : (mid new : List ℕ) → IsPut (as_line part.segment) line mid → IsPut (parted (says_by vs (place_number part.place))) mid new → SoFar vs text tail new
    one_more mid new p q = record {
      short = q.short;
      on = λ ps last a.
          let r = s.on (part ∷ ps) last (tail, b, a) in
          let l = lexeme_text (says_by vs (place_number part.place)) in
          let f = filled (says_by vs) ps last in
          let joined : new ≡ (line ++ as_line part.segment) ++ (32 ∷ (l ++ 32 ∷ [])) = q.joined ∙ ap (λ (z : List ℕ). z ++ (32 ∷ (l ++ 32 ∷ []))) p.joined in
          let here : greatest_number ps ≤ greatest_number (part ∷ ps) = omega arith in
          (r.0, r.1, r.2 ∙ (sym (regroup line (as_line part.segment) l f) ∙ ap (λ (z : List ℕ). z ++ f) (sym joined)), omega (arith, r.3, here));
    }

    size : (ps : List Part) (last : List ℕ) → length (filled (says_by vs) (part ∷ ps) last) ≡ length (as_line part.segment) + (length (parted (says_by vs (place_number part.place))) + length (filled (says_by vs) ps last))
    size ps last =
        let l = lexeme_text (says_by vs (place_number part.place)) in
        let f = filled (says_by vs) ps last in
        omega (arith, length-append (as_line part.segment) (32 ∷ (l ++ (32 ∷ f))), length-append l (32 ∷ f), length-append l (32 ∷ []))

    pub fault_in_segment : (e : FillFault) → IsPutFault (length line + length (as_line part.segment)) e → IsFilledByFault text vs e
    fault_in_segment e f =
        let cut = each_text tail in
        fault_by (part ∷ cut.0) cut.1 (length (as_line part.segment)) e (tail, b, cut.2) (omega (arith, size cut.0 cut.1)) f

    pub fault_in_place : (mid : List ℕ) (e : FillFault) → IsPut (as_line part.segment) line mid → IsPutFault (length mid + length (parted (says_by vs (place_number part.place)))) e → IsFilledByFault text vs e
    fault_in_place mid e p f =
        let cut = each_text tail in
        let l = length (parted (says_by vs (place_number part.place))) in
        let is : length mid + l ≡ length line + (length (as_line part.segment) + l) = omega (arith, ap length p.joined, length-append line (as_line part.segment)) in
        fault_by (part ∷ cut.0) cut.1 (length (as_line part.segment) + l) e (tail, b, cut.2) (omega (arith, size cut.0 cut.1)) (subst (λ (n : ℕ). IsPutFault n e) is f)

-- ---- with values, and with ones
pub enough_by : (text : List ℕ) (vs : List Value) (n : ℕ) → IsGreatestNumber text n → n ≤ length vs → AreEnough text (Some vs)
enough_by text vs n g h parts last a = omega (arith, h, greatest_once text n parts last g a)

pub filled_with : (text : List ℕ) (vs : List Value) (line : List ℕ) → AreEnough text (Some vs) → IsFilledBy text (Some vs) line → IsFilled text vs line
filled_with text vs line enough f = record { parts = f.parts; last = f.last; cut = f.cut; enough = enough f.parts f.last f.cut; whole = f.whole }

pub fault_with : (text : List ℕ) (vs : List Value) (e : FillFault) → AreEnough text (Some vs) → IsFilledByFault text (Some vs) e → IsFillFault text vs e
fault_with text vs faults.NoMemory enough f = tt
fault_with text vs faults.TooLong enough f = (f.0, filled_with text vs f.0 enough f.1, f.2)
fault_with text vs (faults.NoValue n) enough f = absurd f

pub filled_ones : (text line : List ℕ) → IsFilledBy text None line → IsFilled text ones line
filled_ones text line f = record {
  parts = f.parts;
  last = f.last;
  cut = f.cut;
  enough = enough_ones text f.parts f.last f.cut;
  whole = f.whole ∙ same_ones text f.parts f.last f.cut;
}

pub fault_ones : (text : List ℕ) (e : FillFault) → IsFilledByFault text None e → IsFillFault text ones e
fault_ones text faults.NoMemory f = tt
fault_ones text faults.TooLong f = (f.0, filled_ones text f.0 f.1, f.2)
fault_ones text (faults.NoValue n) f = absurd f

-- a short line has no fault
pub short_has_none : (text : List ℕ) (vs : List Value) (line : List ℕ) (e : FillFault) → IsFilled text vs line → length line ≤ 4096 → IsFillFault text vs e → e ≡ faults.NoMemory
short_has_none text vs line faults.NoMemory f h g = refl
short_has_none text vs line faults.TooLong f h g = let same = ap length (line_once text vs g.0 line g.1 f) in absurd (omega (arith, h, same, g.2))
short_has_none text vs line (faults.NoValue n) f h g = absurd (omega (arith, g.1, not_both text vs line n f g.0))

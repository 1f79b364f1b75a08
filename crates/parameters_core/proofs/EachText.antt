-- Each text is parts and a last segment.
use mathlib.Core.Logic.{⊎_elim}
use borrow.Author.Count.{below_more}
use Rattle.std.proofs.Common.{◌⊎◌, ℕ, zero, suc, ◌+◌, ◌<◌, ◌≤◌, false, List, [], ◌∷◌, ◌++◌, length, take, drop, refl, ap, arith, length-append, inl, inr}
use Rattle.std.proofs.lemmas.Bool.{cases_lt, cases_Bool}
use Rattle.parameters_core.specs.Statements.{open_behind, IsClosed}
use Rattle.parameters_core.specs.Places.{BeginsNoPlace, HasNoPlace, Part, BeginsPart, AreParts}
use Rattle.parameters_core.proofs.Quotes.{clash}
use Rattle.parameters_core.proofs.Fronts.{place_or_none, none_in_nothing, place_some}
use Rattle.parameters_core.proofs.Parts.{NoPlaceBefore, none_to_end, part, part_here}

abbrev PartFirst : List ℕ → Type 0
PartFirst text = (part : Part) × (rest : List ℕ) × BeginsPart text part rest

-- one place further on
pub further : (text : List ℕ) (n : ℕ) → NoPlaceBefore text n → (IsClosed (take n text) → BeginsNoPlace (drop n text)) → NoPlaceBefore text (n + 1)
further text n h here = below_more (λ k. IsClosed (take k text) → BeginsNoPlace (drop k text)) n h here

module _ (text : List ℕ) where
  module _ (fuel n : ℕ) (h : NoPlaceBefore text n) (inside : n < length text) (on : NoPlaceBefore text (n + 1) → HasNoPlace text ⊎ PartFirst text) where
    at_closed : IsClosed (take n text) → HasNoPlace text ⊎ PartFirst text
    at_closed closed = ⊎_elim
        (λ none. on (further text n h (λ c. none)))
        (λ found. inr (part (take n text) found.0, found.1, part_here text n h found.0 found.1 (omega arith) closed found.2 found.3 found.4))
        (place_or_none (drop n text))

    at_byte : HasNoPlace text ⊎ PartFirst text
    at_byte = ⊎_elim
        (λ t. on (further text n h (λ c. clash (open_behind false (take n text)) t c)))
        (λ f. at_closed f)
        (cases_Bool (open_behind false (take n text)))

  find_from : (fuel n : ℕ) → length text ≤ n + fuel → NoPlaceBefore text n → HasNoPlace text ⊎ PartFirst text
  find_from zero n all h = inl (none_to_end text n h none_in_nothing (omega (arith, all)))
  find_from (suc fuel) n all h = ⊎_elim
      (λ l. at_byte fuel n h l (λ g. find_from fuel (n + 1) (omega (arith, all)) g))
      (λ g. inl (none_to_end text n h none_in_nothing g))
      (cases_lt n (length text))

  find : HasNoPlace text ⊎ PartFirst text
  find = find_from (length text) 0 (omega arith) (λ k l c. absurd (omega (arith, l)))

abbrev pub SomeParts : List ℕ → Type 0
SomeParts text = (parts : List Part) × (last : List ℕ) × AreParts text parts last

shorter : (text : List ℕ) (part : Part) (rest : List ℕ) → BeginsPart text part rest → length rest < length text
shorter text part rest b = omega (arith, ap length b.split, length-append part.segment (part.place ++ rest), length-append part.place rest, place_some part.place b.is_place)

cut : (fuel : ℕ) (text : List ℕ) → length text < fuel → SomeParts text
cut zero text h = absurd (omega (arith, h))
cut (suc fuel) text h = ⊎_elim
    (λ none. ([], text, (refl, none)))
    (λ found. let more = cut fuel found.1 (omega (arith, h, shorter text found.0 found.1 found.2)) in (found.0 ∷ more.0, more.1, (found.1, found.2, more.2)))
    (find text)

pub each_text : (text : List ℕ) → SomeParts text
each_text text = cut (suc (length text)) text (omega arith)

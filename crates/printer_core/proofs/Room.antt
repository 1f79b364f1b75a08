-- Texts that have room on a page.
use Rattle.std.proofs.Common.{◌≡◌, ℕ, ◌+◌, ◌-◌, ◌<◌, ◌≤◌, arith, Bool, true, false, Option, Some, None, List, [], ◌++◌, length, ap, sym, subst, ◌∙◌, refl, append_assoc, length-append}
use Rattle.std.specs.Prelude.{if◌then◌else◌, nat_le, MatchOption, IfSome}
use Rattle.std.proofs.lemmas.Bool.Decides.{nat_tests}
use Rattle.std.proofs.lemmas.List.{append-nil}
use Rattle.printer_core.specs.declared.page.TheConstants.{PAGE_BYTES}
use Rattle.printer_core.specs.Printing.{added}

pub is_within : (a b : ℕ) → a ≤ b → nat_le a b ≡ true
is_within a b h = grind (arith, nat_tests)

pub is_beyond : (a b : ℕ) → b < a → nat_le a b ≡ false
is_beyond a b h = grind (arith, nat_tests)

pub within : (a b : ℕ) → nat_le a b ≡ true → a ≤ b
within a b e = grind (arith, nat_tests)

pub beyond : (a b : ℕ) → nat_le a b ≡ false → b < a
beyond a b e = grind (arith, nat_tests)

-- the test of two parts is that of their sum
two_tests : (t x y most : ℕ) → x ≤ most - t → nat_le y (most - (t + x)) ≡ nat_le (x + y) (most - t)
two_tests t x y most h = go (nat_le y (most - (t + x))) refl
  where
    go : (b : Bool) → nat_le y (most - (t + x)) ≡ b → b ≡ nat_le (x + y) (most - t)
    go true e = let k = within y (most - (t + x)) e in sym (is_within (x + y) (most - t) (omega arith))
    go false e = let k = beyond y (most - (t + x)) e in sym (is_beyond (x + y) (most - t) (omega arith))

abbrev some_if : Bool → List ℕ → Option (List ℕ)
some_if b text = if b then Some text else None

module _ (t xs ys : List ℕ) where
  added_by : (b : Bool) → nat_le (length xs) (PAGE_BYTES - length t) ≡ b → added (some_if b (t ++ xs)) ys ≡ added (Some t) (xs ++ ys)
  unfolding added
  added_by true e =
      let test : nat_le (length ys) (PAGE_BYTES - length (t ++ xs)) ≡ nat_le (length (xs ++ ys)) (PAGE_BYTES - length t) =
      ap (λ (n : ℕ). nat_le (length ys) (PAGE_BYTES - n)) (length-append t xs)
      ∙ two_tests (length t) (length xs) (length ys) PAGE_BYTES (within (length xs) (PAGE_BYTES - length t) e)
      ∙ ap (λ (n : ℕ). nat_le n (PAGE_BYTES - length t)) (sym (length-append xs ys)) in
      ap (λ (b : Bool). some_if b ((t ++ xs) ++ ys)) test ∙ ap (some_if (nat_le (length (xs ++ ys)) (PAGE_BYTES - length t))) (append_assoc t xs ys)
  added_by false e =
      let far = beyond (length xs) (PAGE_BYTES - length t) e in
      ap (λ (b : Bool). some_if b (t ++ (xs ++ ys))) (sym (is_beyond (length (xs ++ ys)) (PAGE_BYTES - length t) (omega (arith, length-append xs ys))))

-- two parts, one behind the other
pub added_both : (o : Option (List ℕ)) (xs ys : List ℕ) → added (added o xs) ys ≡ added o (xs ++ ys)
unfolding added
added_both None xs ys = refl
added_both (Some t) xs ys = added_by t xs ys (nat_le (length xs) (PAGE_BYTES - length t)) refl

pub added_nothing : (o : Option (List ℕ)) → added o [] ≡ o
unfolding added
added_nothing None = refl
added_nothing (Some t) = ap (λ (b : Bool). some_if b (t ++ [])) (is_within 0 (PAGE_BYTES - length t) (omega arith)) ∙ ap Some (append-nil t)

-- ---- on an empty page
pub added_short : (xs : List ℕ) → length xs ≤ PAGE_BYTES → added (Some []) xs ≡ Some xs
unfolding added
added_short xs h = ap (λ (b : Bool). some_if b xs) (is_within (length xs) (PAGE_BYTES - 0) (omega arith))

added_long : (xs : List ℕ) → PAGE_BYTES < length xs → added (Some []) xs ≡ None
unfolding added
added_long xs h = ap (λ (b : Bool). some_if b xs) (is_beyond (length xs) (PAGE_BYTES - 0) (omega arith))

-- whether a text has at most so many bytes, by what stands on the page
pub fits_is : (xs : List ℕ) (o : Option (List ℕ)) (most : ℕ) (r : Bool) → o ≡ added (Some []) xs → most ≤ PAGE_BYTES → MatchOption o (r ≡ false) (λ text. r ≡ nat_le (length text) most) → r ≡ nat_le (length xs) most
fits_is xs o most r is h m = go (nat_le (length xs) PAGE_BYTES) refl
  where
    go : (b : Bool) → nat_le (length xs) PAGE_BYTES ≡ b → r ≡ nat_le (length xs) most
    go true e = subst (λ (o : Option (List ℕ)). MatchOption o (r ≡ false) (λ text. r ≡ nat_le (length text) most)) (is ∙ added_short xs (within (length xs) PAGE_BYTES e)) m
    go false e =
        let far = beyond (length xs) PAGE_BYTES e in
        subst (λ (o : Option (List ℕ)). MatchOption o (r ≡ false) (λ text. r ≡ nat_le (length text) most)) (is ∙ added_long xs far) m ∙ sym (is_beyond (length xs) most (omega arith))

-- the bytes of the page are its text
pub slice_is : (o : Option (List ℕ)) (xs bytes : List ℕ) → o ≡ Some xs → IfSome o (λ text. bytes ≡ text) → bytes ≡ xs
slice_is None xs bytes e m = cc e
slice_is (Some text) xs bytes e m = let same : text ≡ xs = cc e in m ∙ same

-- ---- one part more
pub with_room : (over : Bool) (items part new : List ℕ) → new ≡ items ++ part → length part ≤ PAGE_BYTES - length items → (if over then None else Some new) ≡ added (if over then None else Some items) part
unfolding added
with_room true items part new e h = refl
with_room false items part new e h = ap Some e ∙ ap (λ (b : Bool). some_if b (items ++ part)) (sym (is_within (length part) (PAGE_BYTES - length items) h))

pub with_none : (over : Bool) (items part : List ℕ) → PAGE_BYTES - length items < length part → None ≡ added (if over then None else Some items) part
unfolding added
with_none true items part h = refl
with_none false items part h = ap (λ (b : Bool). some_if b (items ++ part)) (sym (is_beyond (length part) (PAGE_BYTES - length items) h))

-- ---- what stands on the page
pub stands : (over : Bool) (items text : List ℕ) → text ≡ items → IfSome (if over then None else Some items) (λ t. text ≡ t)
stands true items text e = tt
stands false items text e = e

-- Bounds that conditions set to the numbers of a column.
use Rattle.std.proofs.Common.{◌≡◌, true, ℤ, ◌≤ℤ◌, ◌<ℤ◌, ◌⊎◌, inl, inr, List, Option, Some, slice_get, sym, ap, ◌∙◌, arith}
use Rattle.std.specs.declared.cmp.Ordering.{Ordering}
use Rattle.std.specs.declared.cmp.Ordering.TheVariants as orderings
use Rattle.std.specs.Ordering.{MatchOrdering, int_cmp, is_eq, is_le, is_ge, is_lt, is_gt}
use Rattle.std.specs.Cmp.{int_ranks}
use Rattle.std.proofs.lemmas.Bool.{false≢true}
use Rattle.base_core.specs.Filter.{accepts, compares, cell_meets}
use Rattle.base_core.specs.declared.condition.Comparison.{Comparison}
use Rattle.base_core.specs.declared.condition.Comparison.TheVariants as comparisons
use Rattle.base_core.specs.declared.condition.Condition.{Condition}
use Rattle.base_core.specs.declared.value.Value.{Value}
use Rattle.base_core.specs.declared.value.Value.TheVariants as values
use Rattle.tables_core.specs.Bounding.{Admits, AdmitsRow}
use Rattle.tables_core.specs.declared.bounds.Bounds.{Bounds}

module _ (n l : ℤ) where
  below-by : (o : Ordering) → MatchOrdering o (n <ℤ l) (n ≡ l) (l <ℤ n) → is_le o ≡ true → n ≤ℤ l
  below-by orderings.Less m e = let less : n <ℤ l = m in grind (arith, less)
  below-by orderings.Equal m e = let same : n ≡ l = m in grind (arith, same)
  below-by orderings.Greater m e = absurd (false≢true e)

  above-by : (o : Ordering) → MatchOrdering o (n <ℤ l) (n ≡ l) (l <ℤ n) → is_ge o ≡ true → l ≤ℤ n
  above-by orderings.Less m e = absurd (false≢true e)
  above-by orderings.Equal m e = let same : n ≡ l = m in grind (arith, same)
  above-by orderings.Greater m e = let less : l <ℤ n = m in grind (arith, less)

  le-weaker : (o : Ordering) → is_lt o ≡ true → is_le o ≡ true
  le-weaker orderings.Less e = e
  le-weaker orderings.Equal e = absurd (false≢true e)
  le-weaker orderings.Greater e = absurd (false≢true e)

  ge-weaker : (o : Ordering) → is_gt o ≡ true → is_ge o ≡ true
  ge-weaker orderings.Less e = absurd (false≢true e)
  ge-weaker orderings.Equal e = absurd (false≢true e)
  ge-weaker orderings.Greater e = e

  eq-is-le : (o : Ordering) → is_eq o ≡ true → is_le o ≡ true
  eq-is-le orderings.Less e = absurd (false≢true e)
  eq-is-le orderings.Equal e = e
  eq-is-le orderings.Greater e = absurd (false≢true e)

  eq-is-ge : (o : Ordering) → is_eq o ≡ true → is_ge o ≡ true
  eq-is-ge orderings.Less e = absurd (false≢true e)
  eq-is-ge orderings.Equal e = e
  eq-is-ge orderings.Greater e = absurd (false≢true e)

  -- a number that a literal bounds from above
  pub bounded-above : (c : Comparison) → (c ≡ comparisons.Less) ⊎ (c ≡ comparisons.LessEqual) → accepts c (int_cmp n l) ≡ true → n ≤ℤ l
  bounded-above c (inl is) e = below-by (int_cmp n l) (int_ranks n l) (le-weaker (int_cmp n l) (ap (λ k. accepts k (int_cmp n l)) (sym is) ∙ e))
  bounded-above c (inr is) e = below-by (int_cmp n l) (int_ranks n l) (ap (λ k. accepts k (int_cmp n l)) (sym is) ∙ e)

  -- or from below
  pub bounded-below : (c : Comparison) → (c ≡ comparisons.Greater) ⊎ (c ≡ comparisons.GreaterEqual) → accepts c (int_cmp n l) ≡ true → l ≤ℤ n
  bounded-below c (inl is) e = above-by (int_cmp n l) (int_ranks n l) (ge-weaker (int_cmp n l) (ap (λ k. accepts k (int_cmp n l)) (sym is) ∙ e))
  bounded-below c (inr is) e = above-by (int_cmp n l) (int_ranks n l) (ap (λ k. accepts k (int_cmp n l)) (sym is) ∙ e)

  -- or from both sides
  pub equals : (c : Comparison) → c ≡ comparisons.Equal → accepts c (int_cmp n l) ≡ true → (l ≤ℤ n) × (n ≤ℤ l)
  equals c is e =
      let eq = ap (λ k. accepts k (int_cmp n l)) (sym is) ∙ e in
      (above-by (int_cmp n l) (int_ranks n l) (eq-is-ge (int_cmp n l) eq), below-by (int_cmp n l) (int_ranks n l) (eq-is-le (int_cmp n l) eq))

module _ (condition : Condition) (literal : ℤ) (by : condition.literal ≡ values.Int literal) where
  -- a number that meets a condition stands so to its literal
  stands-so : (cell : Option Value) (n : ℤ) → cell ≡ Some (values.Int n) → cell_meets condition cell ≡ true → accepts condition.comparison (int_cmp n literal) ≡ true
  stands-so cell n is e = ap (λ k. compares condition.comparison (values.Int n) k) (sym by) ∙ ap (cell_meets condition) (sym is) ∙ e

  -- bounds that were narrowed by the condition
  pub within-narrowed : (old new : Bounds) (row : List Value) → new.place ≡ old.place → ((n : ℤ) → Admits old n → accepts condition.comparison (int_cmp n literal) ≡ true → Admits new n) → cell_meets condition (slice_get row old.place) ≡ true → AdmitsRow old row → AdmitsRow new row
  within-narrowed old new row place kept e within n is =
      let at : slice_get row old.place ≡ Some (values.Int n) = ap (slice_get row) (sym place) ∙ is in
      kept n (within n at) (stands-so (slice_get row old.place) n at e)

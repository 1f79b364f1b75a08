-- Values within intervals.
use Rattle.std.proofs.Common.{◌≡◌, ℕ, ◌≤◌, Bool, true, false, ◌&&◌, nat_le, Option, Some, None, refl, sym, ap, ◌∙◌}
use Rattle.std.specs.Cmp.Lexicographic.{bytes_decides}
use Rattle.std.proofs.lemmas.Bool.{false≢true, le-leb}
use Rattle.std.proofs.lemmas.Bool.Decides.{Decides-int_eq}
use Rattle.std.proofs.lemmas.Map.Text.{is_eq-slice_cmp}
use Rattle.std.specs.Ordering.{is_lt, is_gt}
use Rattle.std.specs.declared.cmp.Ordering.{Ordering}
use Rattle.std.specs.declared.cmp.Ordering.TheVariants as orderings
use Rattle.base_core.specs.Filter.{accepts, accepts_order, compares}
use Rattle.base_core.specs.Values.{value_order}
use Rattle.base_core.specs.declared.condition.Comparison.{Comparison}
use Rattle.base_core.specs.declared.condition.Comparison.TheVariants as comparisons
use Rattle.base_core.specs.declared.value.Value.{Value}
use Rattle.base_core.specs.declared.value.Value.TheVariants as values
use Rattle.index_core.specs.declared.interval.Interval.{Interval}
use Rattle.index_core.specs.Rank.{rank}
use Rattle.index_core.specs.Within.{admits}
use Rattle.index_core.proofs.RankLemmas.{rank-le, rank-ge}

both : (a b : Bool) → a ≡ true → b ≡ true → (a && b) ≡ true
both true b p q = q
both false b p q = absurd (false≢true p)

-- a rank from the lowest to the highest
pub admits-from : (i : Interval) (n : ℕ) → i.lowest ≤ n → n ≤ i.highest → admits i n ≡ true
admits-from i n low high = both (nat_le i.lowest n) (nat_le n i.highest) (le-leb i.lowest n low) (le-leb n i.highest high)

-- values that a comparison accepts are in an order that it accepts
record IsOrdered (c : Comparison) (v w : Value) : Type 0 where
  pub order : Ordering
  pub is : value_order v w ≡ Some order
  pub accepted : accepts c order ≡ true

ordered : (c : Comparison) (v w : Value) → compares c v w ≡ true → IsOrdered c v w
ordered c v w e = by (value_order v w) refl e
  where
    by : (o : Option Ordering) → value_order v w ≡ o → accepts_order c o ≡ true → IsOrdered c v w
    by None is a = absurd (false≢true a)
    by (Some o) is a = record { order = o; is = is; accepted = a }

less-only : (o : Ordering) → is_lt o ≡ true → o ≡ orderings.Less
less-only orderings.Less e = refl
less-only orderings.Equal e = absurd (false≢true e)
less-only orderings.Greater e = absurd (false≢true e)

greater-only : (o : Ordering) → is_gt o ≡ true → o ≡ orderings.Greater
greater-only orderings.Less e = absurd (false≢true e)
greater-only orderings.Equal e = absurd (false≢true e)
greater-only orderings.Greater e = refl

-- values that compare as equal are the same
same-value : (v w : Value) → compares comparisons.Equal v w ≡ true → v ≡ w
same-value (values.Int a) (values.Int b) e = ap (λ k. values.Int k) ((Decides-int_eq a b).0 e)
same-value (values.Int a) (values.Text t) e = absurd (false≢true e)
same-value (values.Text s) (values.Int b) e = absurd (false≢true e)
same-value (values.Text s) (values.Text t) e = ap (λ k. values.Text k) ((bytes_decides s t).0 (sym (is_eq-slice_cmp s t) ∙ e))

module _ (c : Comparison) (v w : Value) (met : compares c v w ≡ true) where
  -- the same of the comparison that c is
  met-as : (d : Comparison) → c ≡ d → compares d v w ≡ true
  met-as d is = ap (λ k. compares k v w) (sym is) ∙ met

  pub is-less : c ≡ comparisons.Less → value_order v w ≡ Some orderings.Less
  is-less is = let o = ordered comparisons.Less v w (met-as comparisons.Less is) in o.is ∙ ap Some (less-only o.order o.accepted)

  pub is-greater : c ≡ comparisons.Greater → value_order v w ≡ Some orderings.Greater
  is-greater is = let o = ordered comparisons.Greater v w (met-as comparisons.Greater is) in o.is ∙ ap Some (greater-only o.order o.accepted)

  pub ranks-upto : c ≡ comparisons.LessEqual → rank v ≤ rank w
  ranks-upto is = let o = ordered comparisons.LessEqual v w (met-as comparisons.LessEqual is) in rank-le v w o.order o.is o.accepted

  pub ranks-from : c ≡ comparisons.GreaterEqual → rank w ≤ rank v
  ranks-from is = let o = ordered comparisons.GreaterEqual v w (met-as comparisons.GreaterEqual is) in rank-ge v w o.order o.is o.accepted

  -- so they have the same key, whatever it is
  pub key-same : c ≡ comparisons.Equal → (key : Value → ℕ) → key v ≡ key w
  key-same is key = ap key (same-value v w (met-as comparisons.Equal is))

-- Literals of SET and WHERE, and where places stand.
use mathlib.Core.Logic.{⊎_elim}
use Rattle.std.proofs.Common.{◌≡◌, ℕ, ℤ, pos, suc, zero, ◌+◌, ◌-◌, ◌<◌, ◌≤◌, List, [], ◌∷◌, ◌++◌, map, Some, None, length, sym, ◌∙◌, ap, subst, arith}
use Rattle.std.specs.Prelude.{option_map, slice_get}
use Rattle.std.specs.Option.{option_and_then}
use Rattle.std.proofs.lemmas.Bool.{cases_lt}
use Rattle.std.proofs.lemmas.List.{length-map}
use Rattle.std.proofs.lemmas.Option.{none-some, slice_get-map, slice_get_past}
use Rattle.base_core.specs.declared.value.Value.{Value}
use Rattle.base_core.specs.declared.value.Value.TheVariants as values_of
use Rattle.base_core.specs.declared.value.Column.{Column}
use Rattle.base_core.specs.declared.value.ColType.{ColType}
use Rattle.base_core.specs.declared.value.ColType.TheVariants as types
use Rattle.base_core.specs.declared.condition.Condition.{Condition}
use Rattle.base_core.specs.declared.condition.Assignment.{Assignment}
use Rattle.reader_core.specs.declared.statement.Statement.{Statement}
use Rattle.binding_core.specs.Literals.{filter_literals, filter_names, literals, update_literals, update_names, value_number}
use Rattle.binding_core.specs.Standing.{AreNumbersFrom, StandsAt, IsPlaceType, ArePlaceTypes}
use Rattle.binding_core.proofs.Pushes.{push_each}

-- ---- an element of a list with another behind it
in_first : {X : Type 0} (xs ys : List X) (k : ℕ) (x : X) → slice_get xs k ≡ Some x → slice_get (xs ++ ys) k ≡ Some x
in_first [] ys k x e = absurd (none-some x e)
in_first (y ∷ xs) ys zero x e = e
in_first (y ∷ xs) ys (suc k) x e = in_first xs ys k x e

pub in_second : {X : Type 0} (xs ys : List X) (k n : ℕ) → length xs + n ≡ k → slice_get (xs ++ ys) k ≡ slice_get ys n
in_second [] ys k n e = let same : k ≡ n = omega (arith, e) in ap (slice_get ys) same
in_second (x ∷ xs) ys zero n e = absurd (omega (arith, e))
in_second (x ∷ xs) ys (suc k) n e = in_second xs ys k n (omega (arith, e))

pub past_end : {X : Type 0} (xs : List X) (k : ℕ) → slice_get xs k ≡ None → length xs ≤ k
past_end [] k e = omega arith
past_end (x ∷ xs) zero e = absurd (none-some x (sym e))
past_end (x ∷ xs) (suc k) e = let more = past_end xs k e in omega (arith, more)

module _ {A B C : Type 0} (f : A → C) (g : B → C) (xs : List A) (ys : List B) (k : ℕ) where
  mapped_first : (x : A) → slice_get xs k ≡ Some x → slice_get (map f xs ++ map g ys) k ≡ Some (f x)
  mapped_first x e = in_first (map f xs) (map g ys) k (f x) (slice_get-map f xs k ∙ ap (option_map f) e)

  mapped_second : slice_get xs k ≡ None → slice_get (map f xs ++ map g ys) k ≡ slice_get (map g ys) (k - length xs)
  mapped_second e =
      let past = past_end xs k e in
      in_second (map f xs) (map g ys) k (k - length xs) (omega (arith, past, length-map xs f))

module _ (sets : List Assignment) (filter : List Condition) (k : ℕ) where
  pub set_literal : (a : Assignment) → slice_get sets k ≡ Some a → slice_get (update_literals sets filter) k ≡ Some a.value
  set_literal a e = mapped_first (λ (x : Assignment). x.value) (λ (x : Condition). x.literal) sets filter k a e

  pub filter_literal : slice_get sets k ≡ None → slice_get (update_literals sets filter) k ≡ slice_get (filter_literals filter) (k - length sets)
  filter_literal e = mapped_second (λ (x : Assignment). x.value) (λ (x : Condition). x.literal) sets filter k e

  pub set_name : (a : Assignment) → slice_get sets k ≡ Some a → slice_get (update_names sets filter) k ≡ Some a.column
  set_name a e = mapped_first (λ (x : Assignment). x.column) (λ (x : Condition). x.column) sets filter k a e

  pub filter_name : slice_get sets k ≡ None → slice_get (update_names sets filter) k ≡ slice_get (filter_names filter) (k - length sets)
  filter_name e = mapped_second (λ (x : Assignment). x.column) (λ (x : Condition). x.column) sets filter k e

-- ---- where a place stands
pub nowhere : (ones others : Statement) (number n : ℕ) → length (literals ones) ≤ n → ((k : ℕ) → k < n → StandsAt ones others number k → ⊥) → (k : ℕ) → StandsAt ones others number k → ⊥
nowhere ones others number n all none k s = ⊎_elim
    (λ less. none k less s)
    (λ more.
    let past : slice_get (literals ones) k ≡ None = slice_get_past (literals ones) k (omega (arith, all, more)) in
    none-some (pos number) (sym (ap (option_and_then value_number) past) ∙ s.has))
    (cases_lt k n)

pub number_more : (first : ℕ) (vs : List Value) (place : ℕ) (n : ℤ) → length vs ≡ place → AreNumbersFrom first vs → n ≡ pos (first + place) → AreNumbersFrom first (vs ++ values_of.Int n ∷ [])
number_more first vs place n e all is =
    push_each (λ (k : ℕ) (v : Value). v ≡ values_of.Int (pos (first + k))) (values_of.Int (pos 0)) vs (values_of.Int n) all
    (ap (λ (z : ℤ). values_of.Int z) (is ∙ ap (λ (k : ℕ). pos (first + k)) (sym e)))

pub place_more : (columns : List Column) (ones others : Statement) (found : List ColType) (place : ℕ) (ty : ColType) → length found ≡ place → ArePlaceTypes columns ones others found → IsPlaceType columns ones others (place + 1) ty → ArePlaceTypes columns ones others (found ++ ty ∷ [])
place_more columns ones others found place ty e all here =
    push_each (λ (k : ℕ) (t : ColType). IsPlaceType columns ones others (k + 1) t) types.Text found ty all
    (subst (λ (k : ℕ). IsPlaceType columns ones others (k + 1) ty) (sym e) here)

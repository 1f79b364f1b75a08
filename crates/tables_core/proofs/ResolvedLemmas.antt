-- What is found for items, one item after the other.
use Rattle.std.proofs.Common.{◌≡◌, ◌<◌, ◌+◌, ℕ, suc, List, [], ◌∷◌, Option, Some, length, get_or, filter_map, refl, sym, ap, ◌∙◌, arith, ◌⊎◌, inl, inr}
use Rattle.std.proofs.Math.ListN.{set}
use Rattle.std.specs.Prelude.{slice_get}
use Rattle.std.proofs.lemmas.Bool.{cases_eq}
use Rattle.std.proofs.lemmas.Grind.{get_or-set_at}
use Rattle.std.proofs.lemmas.List.{get_or-set_other}
use Rattle.std.proofs.lemmas.Option.{get_or_from_slice_get}
use Rattle.std.specs.List.{cons_option}
use Rattle.base_core.specs.Filter.{at_index, cell}
use Rattle.base_core.specs.declared.name.Name.{Name}
use Rattle.base_core.specs.declared.value.Value.{Value}
use Rattle.base_core.specs.declared.value.Column.{Column}
use Rattle.tables_core.specs.Contents.{projected_values}
use Rattle.tables_core.specs.Resolving.{AreNamesInOrder}

-- item i is put to the items before it
module _ {X Y : Type 0} (F : X → Y) (items : List X) (found : List Y) (d : Y) (i : ℕ) (y : X) (room : i < length found) (here : y ≡ get_or items i y)
    (known : (k : ℕ) (x : X) → k < i → slice_get items k ≡ Some x → get_or found k d ≡ F x) where
  pub found_more : (k : ℕ) (x : X) → k < i + 1 → slice_get items k ≡ Some x → get_or (set found i (F y)) k d ≡ F x
  found_more k x under is = by (cases_eq k i)
    where
      by : (k ≡ i) ⊎ (k ≡ i → ⊥) → get_or (set found i (F y)) k d ≡ F x
      by (inl same) = get_or-set_at found i k (F y) d same room ∙ ap F (here ∙ (ap (λ n. get_or items n y) (sym same) ∙ get_or_from_slice_get items k x y is))
      by (inr other) = get_or-set_other found i k (F y) d other ∙ known k x (omega (arith, under, other)) is

-- where each item gives the value at its own place, together they give the values
pub each_gives_its_own : {X Y : Type 0} (f : X → Option Y) (xs : List X) (ys : List Y) → length xs ≡ length ys → ((k : ℕ) (x : X) → slice_get xs k ≡ Some x → f x ≡ slice_get ys k) → filter_map f xs ≡ ys
each_gives_its_own f [] [] same own = refl
each_gives_its_own f [] (y ∷ ys) same own = absurd (omega (arith, same))
each_gives_its_own f (x ∷ xs) [] same own = absurd (omega (arith, same))
each_gives_its_own f (x ∷ xs) (y ∷ ys) same own =
    ap (λ o. cons_option o (filter_map f xs)) (own 0 x refl)
    ∙ ap (λ l. y ∷ l) (each_gives_its_own f xs ys (omega (arith, same)) (λ k z is. own (suc k) z is))

-- a row of as many values as there are names, each that of the column at its place, is cut to itself
pub cut_to_itself : (columns : List Column) (names : List Name) (values : List Value) → AreNamesInOrder columns names → length names ≡ length values → projected_values columns names values ≡ values
cut_to_itself columns names values in_order same =
    each_gives_its_own (cell columns values) names values same (λ k name is. ap (at_index values) (in_order k name is))

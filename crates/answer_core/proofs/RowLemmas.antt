-- The rows of lists and of exports.
use Rattle.std.proofs.Common.{◌≡◌, ℕ, ◌-◌, ◌≤◌, min, zero, suc, List, [], ◌∷◌, ◌++◌, length, take, drop, map, flat_map, Option, Some, refl, sym, ap, ◌∙◌, arith}
use Rattle.std.specs.Prelude.{slice_get}
use Rattle.std.specs.List.{concat}
use Rattle.std.proofs.lemmas.List.{take-map, drop-map, length-map, length-drop}
use Rattle.base_core.specs.declared.value.Value.{Value}
use Rattle.messages_core.specs.Rows.{formatted_value, row_values}
use Rattle.messages_core.specs.declared.rows.Format.{Format}
use Rattle.answer_core.specs.Remaining.{item_count, item_rows}
use Rattle.answer_core.specs.RowTexts.{checkpoint_row, table_row}
use Rattle.answer_core.specs.declared.items.Items.{Items}
use Rattle.answer_core.specs.declared.items.Items.TheVariants as items

-- ---- rows of lists

-- the texts of all items, one after another
pub concat-map : {X : Type 0} (f : X → List ℕ) (xs : List X) → concat (map f xs) ≡ flat_map f xs
concat-map f [] = refl
concat-map f (x ∷ xs) = ap (λ (t : List ℕ). f x ++ t) (concat-map f xs)

-- those of some of the items
pub part_texts : {X : Type 0} (f : X → List ℕ) (xs : List X) (next count : ℕ)
    → flat_map f (take count (drop next xs)) ≡ concat (take count (drop next (map f xs)))
part_texts f xs next count =
    sym (concat-map f (take count (drop next xs)))
    ∙ ap concat (sym (take-map f count (drop next xs)) ∙ ap (take count) (sym (drop-map f next xs)))

-- a row that is cut to its formats is told as it was
pub row_values-cut : (vs : List Value) (fs : List Format) (n : ℕ) → min (length vs) (length fs) ≤ n
    → row_values (take n vs) (take n fs) ≡ row_values vs fs
row_values-cut [] fs zero h = refl
row_values-cut [] fs (suc n) h = refl
row_values-cut (v ∷ vs) [] zero h = refl
row_values-cut (v ∷ vs) [] (suc n) h = refl
row_values-cut (v ∷ vs) (f ∷ fs) zero h = absurd (omega arith)
row_values-cut (v ∷ vs) (f ∷ fs) (suc n) h =
    ap (λ (r : List (Option (List ℕ))). formatted_value v f ∷ r) (row_values-cut vs fs n (omega arith))

-- each item has a row
pub length-item_rows : (list : Items) (fs : List Format) → length (item_rows list fs) ≡ item_count list
length-item_rows (items.Rows rows) fs = length-map rows (table_row fs)
length-item_rows (items.Checkpoints entries) fs = length-map entries (checkpoint_row fs)

pub length-rows_behind : (list : Items) (fs : List Format) (next : ℕ) → length (drop next (item_rows list fs)) ≡ item_count list - next
length-rows_behind list fs next = length-drop next (item_rows list fs) ∙ ap (λ (n : ℕ). n - next) (length-item_rows list fs)

-- ---- records

-- the first of a list and those behind it
pub first_is : {X : Type 0} (xs : List X) (x : X) → slice_get xs 0 ≡ Some x → xs ≡ x ∷ drop 1 xs
first_is [] x e = absurd cc
first_is (y ∷ xs) x e =
    let same : y ≡ x = cc in
    ap (λ z. z ∷ xs) same

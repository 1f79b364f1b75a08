-- Fields that are written one after another.
use Rattle.std.proofs.Common.{◌≡◌, ℕ, ◌+◌, ◌<◌, ◌≤◌, zero, suc, List, [], ◌∷◌, ◌++◌, length, get_or, take, drop, map, flat_map, Option, refl, sym, ap, ◌∙◌, append_assoc, subst, arith}
use Rattle.std.specs.Io.KnownBytes.{Appends}
use Rattle.std.proofs.KnownBytes.{Appends-trans}
use Rattle.std.proofs.lemmas.List.{append-nil, take_all, take_more, length-append, length-map}
use Rattle.std.proofs.lemmas.List.Concat.{flat_map-append}
use Rattle.std.proofs.lemmas.List.Folds.{length-flat_map-take}
use Rattle.std.proofs.lemmas.List.Folds.{flat_map-map}
use Rattle.messages_core.specs.Fields.{int16, value, counted_items}
use Rattle.messages_core.specs.Rows.{cell_value, formatted_value, row_values}
use Rattle.messages_core.specs.declared.rows.Cell.{Cell}
use Rattle.messages_core.specs.declared.rows.Format.{Format}
use Rattle.messages_core.specs.declared.rows.Format.TheVariants as formats
use Rattle.base_core.specs.declared.value.Value.{Value}
use Rattle.base_core.specs.Streams.{WritesFront}
use Rattle.base_core.proofs.Fronts.{front-first, front-second}

-- the fields up to one, that one, and those behind it
flat_map_at : {X : Type 0} (f : X → List ℕ) (xs : List X) (i : ℕ) (d : X) → i < length xs
    → flat_map f xs ≡ flat_map f (take i xs) ++ (f (get_or xs i d) ++ flat_map f (drop (suc i) xs))
flat_map_at f [] i d h = absurd (omega arith)
flat_map_at f (y ∷ ys) zero d h = refl
flat_map_at f (y ∷ ys) (suc i) d h =
    let k : i < length ys = omega arith in
    ap (λ t. f y ++ t) (flat_map_at f ys i d k)
    ∙ sym (append_assoc (f y) (flat_map f (take i ys)) (f (get_or ys i d) ++ flat_map f (drop (suc i) ys)))

module _ {X : Type 0} (f : X → List ℕ) (xs : List X) (i : ℕ) (d x : X) (lt : i < length xs) (is : x ≡ get_or xs i d) where
  -- the fields up to one and that one
  pub up_to : flat_map f (take (i + 1) xs) ≡ flat_map f (take i xs) ++ f x
  up_to = ap (flat_map f) (take_more xs i d lt) ∙ flat_map-append f (take i xs) (get_or xs i d ∷ [])
      ∙ ap (λ t. flat_map f (take i xs) ++ t) (append-nil (f (get_or xs i d)) ∙ ap f (sym is))

  -- one more field was written
  pub one_more : (before between after : Option (List ℕ)) → Appends before between (flat_map f (take i xs)) → Appends between after (f x)
      → Appends before after (flat_map f (take (i + 1) xs))
  one_more before between after done this =
      subst (λ t. Appends before after t) (sym up_to) (Appends-trans before between after (flat_map f (take i xs)) (f x) done this)

  -- the writer failed at a field
  pub broken_at : (before between after : Option (List ℕ)) → Appends before between (flat_map f (take i xs)) → WritesFront between after (f x)
      → WritesFront before after (flat_map f xs)
  broken_at before between after done this =
      let done_text = flat_map f (take i xs) in
      let behind = flat_map f (drop (suc i) xs) in
      let whole : flat_map f xs ≡ done_text ++ (f x ++ behind) =
      flat_map_at f xs i d lt ∙ ap (λ y. done_text ++ (f y ++ behind)) (sym is) in
      subst (λ t. WritesFront before after t) (sym whole)
      (front-second before between after done_text (f x ++ behind) done (front-first between after (f x) behind this))

-- a field has no more bytes than all of them, with those before it
pub item_fits : {X : Type 0} (f : X → List ℕ) (xs : List X) (i : ℕ) (d x : X) (most : ℕ) → i < length xs → x ≡ get_or xs i d
    → length (flat_map f xs) < most → length (flat_map f (take i xs)) + length (f x) < most
item_fits f xs i d x most lt is small =
    omega (arith, length-flat_map-take f xs i d lt, ap (λ y. length (f y)) is, small)

-- a count before the fields
pub counted_length : (count : ℕ) (bytes : List ℕ) → 4 + length (int16 count ++ bytes) ≡ 6 + length bytes
counted_length count bytes = omega (arith, length-append (int16 count) bytes)

-- the values of cells
pub cells_mapped : (cs : List Cell) → counted_items (λ c. value (cell_value c)) cs ≡ counted_items value (map cell_value cs)
cells_mapped cs =
    ap (λ (bytes : List ℕ). int16 (length cs) ++ bytes) (sym (flat_map-map value cell_value cs))
    ∙ ap (λ (n : ℕ). int16 n ++ flat_map value (map cell_value cs)) (sym (length-map cs cell_value))

-- a value of a row, in its place
row_at : (vs : List Value) (fs : List Format) (i : ℕ) (v : Value) (d : Option (List ℕ)) → i < length vs → length fs ≡ length vs
    → v ≡ get_or vs i v → formatted_value v (get_or fs i formats.Text) ≡ get_or (row_values vs fs) i d
row_at [] fs i v d lt same is = absurd (omega arith)
row_at (w ∷ vs) [] i v d lt same is = absurd (omega arith)
row_at (w ∷ vs) (g ∷ fs) zero v d lt same is = ap (λ (x : Value). formatted_value x g) is
row_at (w ∷ vs) (g ∷ fs) (suc i) v d lt same is = row_at vs fs i v d (omega arith) (omega arith) is

-- a row has as many values as it has
pub row_length : (vs : List Value) (fs : List Format) → length fs ≡ length vs → length (row_values vs fs) ≡ length vs
row_length [] fs same = refl
row_length (v ∷ vs) [] same = absurd (omega arith)
row_length (v ∷ vs) (f ∷ fs) same = ap suc (row_length vs fs (omega arith))

-- a cell that was made of it
pub cell_at : (vs : List Value) (fs : List Format) (i : ℕ) (v : Value) (cell : Cell) → i < length vs → length fs ≡ length vs
    → v ≡ get_or vs i v → cell_value cell ≡ formatted_value v (get_or fs i formats.Text)
    → (i < length (row_values vs fs)) × (cell_value cell ≡ get_or (row_values vs fs) i (cell_value cell))
cell_at vs fs i v cell lt same is made =
    (omega (arith, row_length vs fs same), made ∙ row_at vs fs i v (cell_value cell) lt same is)

-- all of a row
pub whole_row : (vs : List Value) (fs : List Format) (i : ℕ) → length vs ≤ i → length fs ≡ length vs
    → take i (row_values vs fs) ≡ row_values vs fs
whole_row vs fs i le same = take_all i (row_values vs fs) (omega (arith, row_length vs fs same))

-- the size of one value more
pub row_more : (vs : List Value) (fs : List Format) (i : ℕ) (v : Value) → i < length vs → length fs ≡ length vs → v ≡ get_or vs i v
    → length (flat_map value (take (i + 1) (row_values vs fs)))
    ≡ length (flat_map value (take i (row_values vs fs))) + length (value (formatted_value v (get_or fs i formats.Text)))
row_more vs fs i v lt same is =
    let x = formatted_value v (get_or fs i formats.Text) in
    let there = row_at vs fs i v x lt same is in
    let inside : i < length (row_values vs fs) = omega (arith, row_length vs fs same) in
    ap (λ (bytes : List ℕ). length bytes) (up_to value (row_values vs fs) i x x inside there)
    ∙ length-append (flat_map value (take i (row_values vs fs))) (value x)

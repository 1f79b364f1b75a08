-- The image that comes of all rows is the image of the tables.
use Rattle.std.proofs.Common.{◌≡◌, ℕ, ◌+◌, length, List, [], ◌∷◌, map, refl, sym, ap, ◌∙◌}
use Rattle.base_core.specs.declared.name.Name.{Name}
use Rattle.base_core.specs.declared.value.Row.{Row}
use Rattle.base_core.specs.declared.value.Moment.{Moment}
use Rattle.grants_core.specs.Content.{Rights}
use Rattle.tables_core.specs.Contents.{Table, all_rows, rows_by_table}
use Rattle.tables_core.proofs.CaptureLemmas.{sum-rows_by_table}
use Rattle.capture_core.specs.declared.image.TableImage.{TableImage}
use Rattle.capture_core.specs.Capturing.{ActiveCapture, coming}
use Rattle.std.proofs.lemmas.List.Sums.{sum_by-cons}
use Rattle.std.specs.List.{sum_by}
use Rattle.std.proofs.lemmas.List.{length-append, length-map}
use Rattle.capture_core.specs.Image.{table_image, image, row_total}
use Rattle.capture_core.specs.Filling.{heads, images_under}

-- each table gets its own rows
images_under-all : (ts : List (Name × Table)) → images_under (heads (length (rows_by_table ts)) ts) [] (rows_by_table ts) ≡ map table_image ts
images_under-all [] = refl
images_under-all (t ∷ ts) = ap (λ (l : List TableImage). table_image t ∷ l) (images_under-all ts)

-- there are as many rows of all tables as they have, all together
pub length_all_rows : (ts : List (Name × Table)) → length (all_rows ts) ≡ row_total ts
length_all_rows [] = refl
length_all_rows (t ∷ ts) =
    let rows_in : Name × Table → ℕ = λ u. length u.1.rows in
    let name : ℕ × Row → Name × (ℕ × Row) = λ numbered. (t.0, numbered) in
    length-append (map name t.1.rows) (all_rows ts)
    ∙ (ap (λ n. n + length (all_rows ts)) (length-map t.1.rows name)
    ∙ (ap (λ n. length t.1.rows + n) (length_all_rows ts) ∙ sym (sum_by-cons rows_in t ts)))

-- and as many table by table
pub sum_rows_by_table : (ts : List (Name × Table)) → sum_by length (rows_by_table ts) ≡ row_total ts
sum_rows_by_table ts = sum-rows_by_table ts ∙ length_all_rows ts

-- a capture of which nothing was taken yet
abbrev pub new_capture : ℕ → Moment → ℕ → ActiveCapture
new_capture number point left = record {
  number = number;
  point = point;
  left = left;
  filled = record { whole = []; rows = [] };
  grants = [];
}

-- of a new capture the image of the tables and rights is to come
pub coming-new : (number : ℕ) (point : Moment) (left : ℕ) (ts : List (Name × Table)) (rights : Rights)
    → coming (new_capture number point left) (record { tables = ts; rest = rows_by_table ts }) rights.in_force ≡ image number point ts rights
coming-new number point left ts rights =
    ap (λ (l : List TableImage). record { number = number; point = point; tables = l; grants = rights.in_force }) (images_under-all ts)

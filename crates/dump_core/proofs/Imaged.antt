-- What an image keeps is dumped as the journal at its point.
use Rattle.std.proofs.Common.{◌≡◌, ℕ, List, [], ◌∷◌, ◌++◌, map, refl, ap, ◌∙◌}
use Rattle.std.specs.List.{flat_map}
use Rattle.base_core.specs.declared.name.Name.{Name}
use Rattle.base_core.specs.declared.name.User.{User}
use Rattle.base_core.specs.declared.value.Row.{Row}
use Rattle.tables_core.specs.Contents.{Table}
use Rattle.grants_core.specs.Content.{Rights}
use Rattle.capture_core.specs.Image.{image, table_image}
use Rattle.system_core.specs.Journal.{tables_at, rights_at}
use Rattle.system_core.specs.Exports.{journal_at}
use Rattle.base_core.specs.declared.value.Moment.{Moment}
use Rattle.dump_core.specs.Dump.{creation, insertion, insertions, granting, grants_together, as_table, dump_of, dump_of_image}
use Rattle.dump_core.specs.Laws.{ImageIsDumped}

-- rows without their numbers are inserted alike
rows_alike : (table : Name) (owner : User) (rows : List (ℕ × Row)) → map (insertion table owner) (map (λ row. (0, row)) (map (λ numbered. numbered.1) rows)) ≡ map (insertion table owner) rows
rows_alike table owner [] = refl
rows_alike table owner (row ∷ rows) = λ i. insertion table owner row ∷ rows_alike table owner rows i

tables_alike : (tables : List (Name × Table)) → map creation (map as_table (map table_image tables)) ≡ map creation tables
tables_alike [] = refl
tables_alike (t ∷ ts) = λ i. creation t ∷ tables_alike ts i

insertions_alike : (tables : List (Name × Table)) → flat_map insertions (map as_table (map table_image tables)) ≡ flat_map insertions tables
insertions_alike [] = refl
insertions_alike (t ∷ ts) = λ i. rows_alike t.0 t.1.owner t.1.rows i ++ insertions_alike ts i

image_alike : (number : ℕ) (point : Moment) (tables : List (Name × Table)) (rights : Rights) → dump_of_image (image number point tables rights) ≡ dump_of tables rights.in_force
image_alike number point tables rights =
    λ i. tables_alike tables i ++ (insertions_alike tables i ++ map granting (grants_together rights.in_force))

pub image_is_dumped : ImageIsDumped
image_is_dumped journal kept of =
    ap dump_of_image of.is ∙ image_alike kept.number kept.point (tables_at (journal_at journal kept.point)) (rights_at (journal_at journal kept.point))

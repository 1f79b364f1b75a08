-- An image's tables while rows come in, table after table.
use Rattle.std.specs.Prelude.{ℕ, List, [], ◌∷◌, ◌++◌, length, map, take, drop, ◌≡◌}
use Rattle.std.specs.List.{AllByRecursion}
use Rattle.base_core.specs.declared.name.Name.{Name}
use Rattle.base_core.specs.declared.name.User.{User}
use Rattle.base_core.specs.declared.value.Row.{Row}
use Rattle.base_core.specs.declared.value.Column.{Column}
use Rattle.tables_core.specs.Contents.{Table, Database}
use Rattle.capture_core.specs.declared.image.TableImage.{TableImage}

-- a table but for its rows
pub record Head : Type 0 where
  pub name : Name
  pub owner : User
  pub columns : List Column

abbrev pub head : Name × Table → Head
head t = record { name = t.0; owner = t.1.owner; columns = t.1.columns }

-- the heads of the first tables, so many
abbrev pub heads : ℕ → List (Name × Table) → List Head
heads count tables = take count (map head tables)

-- the image of the table of this head, with these rows
abbrev pub image_under : Head → List Row → TableImage
image_under h rows =
    record { name = h.name; owner = h.owner; columns = h.columns; rows = rows }

-- the images of the tables of these heads: each gets the rows that it has still to give, and the
-- first one has some already
abbrev pub images_under : List Head → List Row → List (List Row) → List TableImage
images_under [] rows rest = []
images_under (h ∷ hs) rows [] = []
images_under (h ∷ hs) rows (more ∷ rest) =
    image_under h (rows ++ more) ∷ images_under hs [] rest

-- the tables that are whole, and the rows so far of the one that comes next
pub record Filled : Type 0 where
  pub whole : List TableImage
  pub rows : List Row

-- what comes of it once the rows are in that the tables have still to give
abbrev pub completed : List Head → Filled → List (List Row) → List TableImage
completed hs f rest =
    f.whole ++ images_under (drop (length f.whole) hs) f.rows (drop (length f.whole) rest)

-- the same, of the tables that a capture covers
abbrev pub completed_from : Database → Filled → List TableImage
completed_from d f = completed (heads (length d.rest) d.tables) f d.rest

-- each of these tables has given all its rows
abbrev pub AreGiven : List (List Row) → Type 0
AreGiven rest = AllByRecursion (λ rows. rows ≡ []) rest

-- rows go from the tables into what is filled: the same comes of it, and the tables that are whole
-- have given all
pub record PassesRows (old new : Database) (before after : Filled) : Type 0 where
  pub tables : new.tables ≡ old.tables
  pub covered : length new.rest ≡ length old.rest
  pub given : AreGiven (take (length after.whole) new.rest)
  pub same : completed_from new after ≡ completed_from old before

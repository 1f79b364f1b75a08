-- What is kept of tables and rights at one point, and what it says of a user.
use Rattle.std.specs.Prelude.{ℕ, ◌+◌, Bool, ◌||◌, List, [], length, map, sum_by, max, find}
use Rattle.std.specs.List.{list_any}
use Rattle.std.specs.Option.{option_map_or}
use Rattle.std.specs.Prelude.{false}
use Rattle.base_core.specs.Words.{same_name}
use Rattle.base_core.specs.Users.{same_user}
use Rattle.base_core.specs.declared.name.Name.{Name}
use Rattle.base_core.specs.declared.name.User.{User}
use Rattle.base_core.specs.declared.privilege.Atom.{Atom}
use Rattle.base_core.specs.declared.value.Column.{Column}
use Rattle.base_core.specs.Privileges.{to_select}
use Rattle.base_core.specs.declared.value.Moment.{Moment}
use Rattle.tables_core.specs.Contents.{Table}
use Rattle.grants_core.specs.Content.{Rights, gives}
use Rattle.grants_core.specs.declared.grant.Grant.{Grant}
use Rattle.capture_core.specs.declared.image.Image.{Image}
use Rattle.capture_core.specs.declared.image.TableImage.{TableImage}

-- a table as it is: its name, owner and columns, and its rows in order
abbrev pub table_image : Name × Table → TableImage
table_image t =
    record {
      name = t.0;
      owner = t.1.owner;
      columns = t.1.columns;
      rows = map (λ numbered. numbered.1) t.1.rows;
    }

-- Cao et al. 2011: the state at the point of consistency. All tables in order of creation, and the
-- grants in force.
abbrev pub image : ℕ → Moment → List (Name × Table) → Rights → Image
image number point tables rights =
    record {
      number = number;
      point = point;
      tables = map table_image tables;
      grants = rights.in_force;
    }

-- how many rows the tables have, all together
abbrev pub row_total : List (Name × Table) → ℕ
row_total tables = sum_by (λ t. length t.1.rows) tables

-- how many records a checkpoint of them has: one for each row and each grant in force, and never
-- none
abbrev pub records : List (Name × Table) → Rights → ℕ
records tables rights = max (row_total tables + length rights.in_force) 1

-- whether a table of this name stands in the image
abbrev pub has : Image → Name → Bool
has image name = list_any (λ t. same_name name t.name) image.tables

-- the columns of the table of this name, and none where no such table stands there
abbrev pub columns_in : Image → Name → List Column
columns_in image name =
    option_map_or (λ t. t.columns) (find (λ t. same_name name t.name) image.tables) []

-- whether the grant gives the user SELECT of one of the columns of the table
abbrev pub gives_one : User → Name → List Column → Grant → Bool
gives_one user table columns g = list_any (λ c. gives user (to_select table c.name) g) columns

-- whether the user owns the atom's table there
unfoldable pub owns_in_image : Image → User → Atom → Bool
owns_in_image image user atom =
    option_map_or (λ t. same_user t.owner user)
    (find (λ t. same_name atom.table t.name) image.tables)
    false

-- whether he holds the atom there: he owns its table, or a grant of the image gives it to him
abbrev pub holds_in_image : Image → User → Atom → Bool
holds_in_image image user atom =
    owns_in_image image user atom || list_any (gives user atom) image.grants

-- Laws of images.
use Rattle.std.specs.Prelude.{ℕ, ◌≡◌, ◌||◌, List, is_some, false}
use Rattle.std.specs.List.{list_any}
use Rattle.std.specs.Option.{option_map_or}
use Rattle.base_core.specs.Users.{same_user}
use Rattle.base_core.specs.declared.name.Name.{Name}
use Rattle.base_core.specs.declared.name.User.{User}
use Rattle.base_core.specs.declared.privilege.Atom.{Atom}
use Rattle.base_core.specs.declared.value.Moment.{Moment}
use Rattle.tables_core.specs.Contents.{Table, table_of}
use Rattle.grants_core.specs.Content.{Rights, gives}
use Rattle.capture_core.specs.Image.{image, has, holds_in_image}

-- an image has a table exactly where the tables have one of that name
abbrev pub HasAsTables : Type 0
HasAsTables =
    (number : ℕ) (point : Moment) (tables : List (Name × Table)) (rights : Rights) (name : Name)
    → has (image number point tables rights) name ≡ is_some (table_of tables name)

-- a user holds an atom in an image exactly where he owns the atom's table, or a grant in force
-- gives it to him
abbrev pub HoldsAsRights : Type 0
HoldsAsRights =
    (number : ℕ) (point : Moment) (tables : List (Name × Table)) (rights : Rights)
    (user : User) (atom : Atom)
    → holds_in_image (image number point tables rights) user atom
    ≡ (option_map_or (λ t. same_user t.owner user) (table_of tables atom.table) false
    || list_any (gives user atom) rights.in_force)

-- Images of more and more tables, and look-ups in them.
use Rattle.std.proofs.Common.{◌≡◌, Bool, true, false, cond, ◌||◌, List, [], ◌∷◌, map, Some, is_some, refl}
use Rattle.std.specs.List.{list_any, find}
use Rattle.std.specs.Option.{option_map_or}
use Rattle.base_core.specs.Words.{same_name}
use Rattle.base_core.specs.Users.{same_user}
use Rattle.base_core.specs.declared.name.Name.{Name}
use Rattle.base_core.specs.declared.name.User.{User}
use Rattle.tables_core.specs.Contents.{Table, table_of}
use Rattle.capture_core.specs.Image.{table_image}

-- an image has the names of the tables
pub has-table_image : (tables : List (Name × Table)) (name : Name)
    → list_any (λ t. same_name name t.name) (map table_image tables) ≡ is_some (table_of tables name)
has-table_image [] name = refl
has-table_image (t ∷ ts) name = by (same_name name t.0) (has-table_image ts name)
  where
    by : (b : Bool) → list_any (λ t. same_name name t.name) (map table_image ts) ≡ is_some (table_of ts name)
        → (b || list_any (λ t. same_name name t.name) (map table_image ts)) ≡ is_some (cond b (Some t.1) (table_of ts name))
    by true rest = refl
    by false rest = rest

-- and their owners
pub owns-table_image : (tables : List (Name × Table)) (name : Name) (user : User)
    → option_map_or (λ t. same_user t.owner user) (find (λ t. same_name name t.name) (map table_image tables)) false
    ≡ option_map_or (λ t. same_user t.owner user) (table_of tables name) false
owns-table_image [] name user = refl
owns-table_image (t ∷ ts) name user = by (same_name name t.0) (owns-table_image ts name user)
  where
    by : (b : Bool) → option_map_or (λ t. same_user t.owner user) (find (λ t. same_name name t.name) (map table_image ts)) false ≡ option_map_or (λ t. same_user t.owner user) (table_of ts name) false
        → option_map_or (λ t. same_user t.owner user) (cond b (Some (table_image t)) (find (λ t. same_name name t.name) (map table_image ts))) false
        ≡ option_map_or (λ t. same_user t.owner user) (cond b (Some t.1) (table_of ts name)) false
    by true rest = refl
    by false rest = rest

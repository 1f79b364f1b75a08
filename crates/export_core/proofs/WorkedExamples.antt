-- The definitions on worked examples, computed.
use Rattle.std.proofs.Common.{◌≡◌, ℕ, pos, true, false, List, [], ◌∷◌, None, Some, codes, refl}
use Rattle.std.specs.Fmt.{digits}
use Rattle.base_core.specs.Privileges.{to_select}
use Rattle.base_core.specs.declared.name.Name.{Name}
use Rattle.base_core.specs.declared.name.User.{User}
use Rattle.base_core.specs.declared.value.Row.{Row}
use Rattle.base_core.specs.declared.value.ColType.TheVariants.{Integer, Text}
use Rattle.base_core.specs.declared.value.Value.TheVariants as values
use Rattle.grants_core.specs.declared.grant.Grant.{Grant}
use Rattle.grants_core.specs.Owners.{owns}
use Rattle.grants_core.specs.Content.{Rights, gives}
use Rattle.capture_core.specs.Image.{owns_in_image as owned}
use Rattle.capture_core.specs.declared.image.Image.{Image}
use Rattle.capture_core.specs.declared.image.TableImage.{TableImage}
use Rattle.export_core.specs.Export.{image_export}

-- users, the table and its column are named by one letter
abbrev o : User
o = record { 0 = codes "o" }

abbrev u : User
u = record { 0 = codes "u" }

abbrev row : ℕ → Row
row n = record { values = values.Int (pos n) ∷ [] }

-- the table t of o, with the column v
abbrev table : List Row → TableImage
table rows = record { name = codes "t"; owner = o; columns = record { name = codes "v"; ty = Integer } ∷ []; rows = rows }

-- o granted SELECT of this column of this table to u
abbrev grant_of : Name → Name → Grant
grant_of table column = record { number = 0; moment = record { 0 = 3 }; atom = to_select table column; grantor = o; grantee = u; option = false }

abbrev grant : Grant
grant = grant_of (codes "t") (codes "v")

abbrev rights : List Grant → Rights
rights grants = record {
  owners = record { table = codes "t"; owner = o; granted = true } ∷ record { table = codes "pay"; owner = o; granted = true } ∷ [];
  in_force = grants;
  made = 1;
}

abbrev image : List TableImage → List Grant → Image
image tables grants = record { number = 1; point = record { 0 = 4 }; tables = tables; grants = grants }

kept_value : image_export (image (table (row 1 ∷ row 2 ∷ row 3 ∷ []) ∷ []) []) (rights []) o None
    ≡ codes "table,t,v\n" ∷ codes "row,1\n" ∷ codes "row,2\n" ∷ codes "row,3\n" ∷ codes "end 1\n" ∷ []
unfolding owns gives owned digits
kept_value = refl

-- revoked after the point
captured_grants : image_export (image (table (row 7 ∷ []) ∷ []) (grant ∷ [])) (rights []) u None ≡ codes "withheld,t,now\n" ∷ codes "end 1\n" ∷ []
unfolding owns gives owned digits
captured_grants = refl

-- and granted again
granted_again : image_export (image (table (row 7 ∷ []) ∷ []) (grant ∷ [])) (rights (grant ∷ [])) u (Some (codes "t"))
    ≡ codes "table,t,v\n" ∷ codes "row,7\n" ∷ codes "end 1\n" ∷ []
unfolding owns gives owned digits
granted_again = refl

granted_after_point : image_export (image (table (row 7 ∷ []) ∷ []) []) (rights (grant ∷ [])) u None ≡ codes "withheld,t,point\n" ∷ codes "end 1\n" ∷ []
unfolding owns gives owned digits
granted_after_point = refl

held_at_neither : image_export (image (table (row 7 ∷ []) ∷ []) []) (rights []) u None ≡ codes "withheld,t,point\n" ∷ codes "end 1\n" ∷ []
unfolding owns gives owned digits
held_at_neither = refl

-- pay of o, with the columns name and wage
abbrev pay : TableImage
pay = record {
  name = codes "pay";
  owner = o;
  columns = record { name = codes "name"; ty = Text } ∷ record { name = codes "wage"; ty = Integer } ∷ [];
  rows = record { values = values.Text (codes "Bo") ∷ values.Int (pos 5) ∷ [] } ∷ [];
}

abbrev names_granted : Grant
names_granted = grant_of (codes "pay") (codes "name")

abbrev wages_granted : Grant
wages_granted = grant_of (codes "pay") (codes "wage")

whole_to_owner : image_export (image (pay ∷ []) []) (rights []) o None ≡ codes "table,pay,name,wage\n" ∷ codes "row,Bo,5\n" ∷ codes "end 1\n" ∷ []
unfolding owns gives owned digits
whole_to_owner = refl

cut_to_names : image_export (image (pay ∷ []) (names_granted ∷ [])) (rights (names_granted ∷ [])) u None
    ≡ codes "table,pay,name\n" ∷ codes "row,Bo\n" ∷ codes "end 1\n" ∷ []
unfolding owns gives owned digits
cut_to_names = refl

-- a column that was granted after the point, or revoked after it
granted_later : image_export (image (pay ∷ []) (names_granted ∷ [])) (rights (names_granted ∷ wages_granted ∷ [])) u (Some (codes "pay"))
    ≡ codes "table,pay,name\n" ∷ codes "row,Bo\n" ∷ codes "end 1\n" ∷ []
unfolding owns gives owned digits
granted_later = refl

revoked_later : image_export (image (pay ∷ []) (names_granted ∷ wages_granted ∷ [])) (rights (wages_granted ∷ [])) u None
    ≡ codes "table,pay,wage\n" ∷ codes "row,5\n" ∷ codes "end 1\n" ∷ []
unfolding owns gives owned digits
revoked_later = refl

-- another column then than now
none_of_both : image_export (image (pay ∷ []) (names_granted ∷ [])) (rights (wages_granted ∷ [])) u None ≡ codes "withheld,pay,now\n" ∷ codes "end 1\n" ∷ []
unfolding owns gives owned digits
none_of_both = refl

-- a checkpoint of nothing
nothing_but_the_end : image_export (image [] []) (rights []) u None ≡ codes "end 1\n" ∷ []
unfolding digits
nothing_but_the_end = refl

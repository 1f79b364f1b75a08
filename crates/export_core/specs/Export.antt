-- What an export tells of an image, line by line.
use Rattle.std.specs.Prelude.{◌≡◌, ℕ, Bool, true, ◌&&◌, if◌then◌else◌, List, [], ◌∷◌, ◌++◌, map, flat_map, find, Option, Some, None, option_to_list, IfSome, IsSomeAnd, codes, decimal}
use Rattle.std.specs.List.{list_any}
use Rattle.base_core.specs.Words.{same_name}
use Rattle.base_core.specs.Privileges.{to_select}
use Rattle.base_core.specs.declared.name.Name.{Name}
use Rattle.base_core.specs.declared.name.User.{User}
use Rattle.base_core.specs.declared.value.Column.{Column}
use Rattle.grants_core.specs.Content as rights
use Rattle.grants_core.specs.Content.{Rights}
use Rattle.capture_core.specs.Image as images
use Rattle.capture_core.specs.declared.image.Image.{Image}
use Rattle.capture_core.specs.declared.image.TableImage.{TableImage}
use Rattle.export_core.specs.Record.{record_line, row_line}

-- whether the user held SELECT of the table's column at the image's point, by its owners and grants
abbrev pub held_then : Image → User → Name → Name → Bool
held_then image user table column = images.holds_in_image image user (to_select table column)

-- whether he holds it now, by the owners and the grants in force
abbrev pub holds_now : Rights → User → Name → Name → Bool
holds_now now user table column = rights.holds now.owners now.in_force user (to_select table column)

-- of each of a table's columns, whether he held it then
abbrev pub held : Image → User → Name → List Column → List Bool
held image user table columns = map (λ c. held_then image user table c.name) columns

-- of each, whether he held it then and holds it now: so it is listed
abbrev pub listed_marks : Image → Rights → User → Name → List Column → List Bool
listed_marks image now user table columns =
    map (λ c. held_then image user table c.name && holds_now now user table c.name) columns

-- whether one of the places is marked
abbrev pub is_any : List Bool → Bool
is_any marks = list_any (λ mark. mark) marks

-- the items, without those whose places are marked false
abbrev pub cut : {A : Type 0} → List Bool → List A → List A
cut [] items = items
cut (mark ∷ marks) [] = []
cut (mark ∷ marks) (item ∷ items) = if mark then item ∷ cut marks items else cut marks items

-- a table's name and the names of its columns, cut to those that are marked
abbrev pub table_line : List Bool → TableImage → List ℕ
table_line marks t =
    record_line (codes "table" ∷ t.name ∷ cut marks (map (λ c. c.name) t.columns))

-- a table that is withheld, and when SELECT of it was missing
abbrev pub withheld_line : Name → List ℕ → List ℕ
withheld_line table missing = record_line (codes "withheld" ∷ table ∷ missing ∷ [])

-- the last line, with the checkpoint's number
abbrev pub end_line : ℕ → List ℕ
end_line number = codes "end " ++ decimal number ++ codes "\n"

-- a table and its rows, cut to the columns that are marked
abbrev pub listed_lines : List Bool → TableImage → List (List ℕ)
listed_lines marks t = table_line marks t ∷ map (λ row. row_line (cut marks row.values)) t.rows

-- What is told of a table: its lines, cut to the columns that the user held at the point and holds
-- now. Where there is none, that it is withheld, and why: he held no column then, or holds none of
-- those now.
abbrev pub table_records : Image → Rights → User → TableImage → List (List ℕ)
table_records image now user t =
    let marks = listed_marks image now user t.name t.columns in
    let could = held image user t.name t.columns in
    if is_any marks then listed_lines marks t
    else withheld_line t.name (if is_any could then codes "now" else codes "point") ∷ []

-- the tables of an export: all, in the order of their creation, or that of the name alone
abbrev pub chosen : List TableImage → Option Name → List TableImage
chosen tables None = tables
chosen tables (Some name) = option_to_list (find (λ t. same_name name t.name) tables)

-- the records of an export to the user: what is told of each of its tables, and the end
abbrev pub image_export : Image → Rights → User → Option Name → List (List ℕ)
image_export image now user only =
    flat_map (table_records image now user) (chosen image.tables only) ++ end_line image.number ∷ []

-- who asks for one table alone may have it: it is in the image, and he held SELECT of a column of it
-- then that he holds now
abbrev pub IsAllowed : Image → Rights → User → Option Name → Type 0
IsAllowed image now user only =
    IfSome only (λ name. IsSomeAnd (find (λ t. same_name name t.name) image.tables)
    (λ t. is_any (listed_marks image now user t.name t.columns) ≡ true))

-- Laws of exports.
use Rattle.std.specs.Prelude.{◌≡◌, ℕ, ◌+◌, ◌<◌, true, [], ◌∷◌, ◌++◌, length, map, find, Some, codes}
use Rattle.std.specs.List.{list_all}
use Rattle.base_core.specs.Words.{same_name}
use Rattle.base_core.specs.declared.name.Name.{Name}
use Rattle.base_core.specs.declared.name.User.{User}
use Rattle.grants_core.specs.Content.{Rights}
use Rattle.capture_core.specs.declared.image.Image.{Image}
use Rattle.capture_core.specs.declared.image.TableImage.{TableImage}
use Rattle.export_core.specs.Export.{image_export, table_records, listed_marks, listed_lines, end_line, IsAllowed}
use Rattle.export_core.specs.Record.{record_line, row_line}
use Rattle.export_core.specs.Ticket.{TicketState, after_giving}

-- the records given and those to come are all together the same, however many are given
abbrev pub KeepsRecords : Type 0
KeepsRecords =
    (n : ℕ) (e : TicketState)
    → (after_giving n e).given ++ (after_giving n e).to_come ≡ e.given ++ e.to_come

-- to give some and then more is to give as many at once
abbrev pub GivesTogether : Type 0
GivesTogether =
    (n m : ℕ) (e : TicketState) → after_giving m (after_giving n e) ≡ after_giving (n + m) e

-- who may have a table alone gets the table of that name, cut to its columns that are listed, and
-- the end, and it is not withheld
abbrev pub ListsAlone : Type 0
ListsAlone =
    (image : Image) (now : Rights) (user : User) (name : Name)
    → IsAllowed image now user (Some name)
    → (t : TableImage)
    × (find (λ u. same_name name u.name) image.tables ≡ Some t)
    × (image_export image now user (Some name)
    ≡ listed_lines (listed_marks image now user t.name t.columns) t ++ end_line image.number ∷ [])

-- of a table with columns of which each is listed, all names and all values are told
abbrev pub WholeIsUncut : Type 0
WholeIsUncut =
    (image : Image) (now : Rights) (user : User) (t : TableImage)
    → 0 < length t.columns
    → list_all (λ mark. mark) (listed_marks image now user t.name t.columns) ≡ true
    → table_records image now user t
    ≡ record_line (codes "table" ∷ t.name ∷ map (λ c. c.name) t.columns)
    ∷ map (λ row. row_line row.values) t.rows

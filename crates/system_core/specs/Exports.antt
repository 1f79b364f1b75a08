-- What an export tells, by the journal at its checkpoint's point and the journal at the request.
use Rattle.std.specs.Prelude.{ℕ, Bool, ◌&&◌, if◌then◌else◌, List, [], ◌∷◌, ◌++◌, length, map, flat_map, find, take, Option, Some, None, option_to_list, codes}
use Rattle.base_core.specs.Words.{same_name}
use Rattle.base_core.specs.declared.name.Name.{Name}
use Rattle.base_core.specs.declared.name.User.{User}
use Rattle.base_core.specs.declared.value.Column.{Column}
use Rattle.base_core.specs.declared.value.Moment.{Moment}
use Rattle.tables_core.specs.Contents.{Table}
use Rattle.export_core.specs.Record.{record_line, row_line}
use Rattle.export_core.specs.Export.{holds_now, cut, is_any, withheld_line, end_line}
use Rattle.export_core.specs.Ticket.{TicketState}
use Rattle.system_core.specs.declared.machine.event.Entry.{Entry}
use Rattle.system_core.specs.Journal.{tables_at, rights_at}

-- the journal as it was at a moment
abbrev pub journal_at : List Entry → Moment → List Entry
journal_at journal point = take point.0 journal

-- whether the user holds SELECT of the table's column after the journal: he owns the table, or a grant in
-- force gives it to him
abbrev pub may_select : List Entry → User → Name → Name → Bool
may_select journal user table column = holds_now (rights_at journal) user table column

-- of each of a table's columns, whether the user may select it by the journal of the point
abbrev pub could_select : List Entry → User → Name → List Column → List Bool
could_select past user table columns = map (λ c. may_select past user table c.name) columns

-- of each, whether he may by both journals, that of the point (past) and that of the request (now)
abbrev pub shown : (past now : List Entry) → User → Name → List Column → List Bool
shown past now user table columns =
    map (λ c. may_select past user table c.name && may_select now user table c.name) columns

-- a table's name and columns, and its rows, each cut to the columns that are shown
abbrev pub table_lines : List Bool → Name × Table → List (List ℕ)
table_lines marks t =
    record_line (codes "table" ∷ t.0 ∷ cut marks (map (λ c. c.name) t.1.columns))
    ∷ map (λ numbered. row_line (cut marks numbered.1.values)) t.1.rows

-- What is told of a table of the point: its lines, cut to the columns that the user may select by
-- both journals. Where there is none, that it is withheld, and why: he could select no column at the
-- point, or may select none of those now.
abbrev pub table_told : (past now : List Entry) → User → Name × Table → List (List ℕ)
table_told past now user t =
    let marks = shown past now user t.0 t.1.columns in
    let could = could_select past user t.0 t.1.columns in
    if is_any marks then table_lines marks t
    else withheld_line t.0 (if is_any could then codes "now" else codes "point") ∷ []

-- the tables of an export: all, in the order of their creation, or that of the name alone
abbrev pub tables_told : List (Name × Table) → Option Name → List (Name × Table)
tables_told tables None = tables
tables_told tables (Some name) = option_to_list (find (λ t. same_name name t.0) tables)

-- the records of an export: what is told of each of its tables, and the end
abbrev pub export_lines : (past now : List Entry) → ℕ → User → Option Name → List (List ℕ)
export_lines past now number user only =
    flat_map (table_told past now user) (tables_told (tables_at past) only) ++ end_line number ∷ []

-- an export to the user of the checkpoint of this number and point, of which nothing was given yet
abbrev pub export_of : List Entry → ℕ → Moment → User → Option Name → TicketState
export_of journal number point user only = record {
  number = number;
  point = point;
  at = record { 0 = length journal };
  given = [];
  to_come = export_lines (journal_at journal point) journal number user only;
}

-- What a journal says: its tables, its changes of rights, and how a statement is judged at it.
use Rattle.std.specs.Prelude.{◌≡◌, true, List, [], ◌∷◌, ◌++◌, length, Ok}
use Rattle.std.specs.List.{fold}
use Rattle.base_core.specs.declared.name.Name.{Name}
use Rattle.base_core.specs.declared.name.User.{User}
use Rattle.base_core.specs.declared.limits.Limits.{Limits}
use Rattle.reader_core.specs.declared.statement.Statement.{Statement}
use Rattle.reader_core.specs.declared.statement.Statement.TheVariants as statements
use Rattle.tables_core.specs.Contents.{Table, empty_table, with_row, without_chosen_rows, with_updated_rows, with_change}
use Rattle.grants_core.specs.declared.grant.Change.{Change}
use Rattle.grants_core.specs.declared.grant.Change.TheVariants as change
use Rattle.grants_core.specs.Content.{Rights}
use Rattle.grants_core.specs.History.{content_after}
use Rattle.system_core.specs.declared.machine.event.Entry.{Entry}
use Rattle.monitor_core.specs.Verdict.{State, Check, verdict, atoms_at, is_change}

-- the tables after a change
abbrev pub tables_after : List (Name × Table) → User → Statement → List (Name × Table)
tables_after tables user (statements.CreateTable table columns) =
    tables ++ (table, empty_table user columns) ∷ []
tables_after tables user (statements.Insert table values) =
    with_change table (with_row (record { values = values })) tables
tables_after tables user (statements.Delete table filter) =
    with_change table (without_chosen_rows filter) tables
tables_after tables user (statements.Update table sets filter) =
    with_change table (with_updated_rows sets filter) tables
tables_after tables user (statements.Select list table filter) = tables
tables_after tables user (statements.Grant privileges table users option) = tables
tables_after tables user (statements.Revoke privileges table users) = tables
tables_after tables user (statements.RevokeOption privileges table users) = tables
tables_after tables user statements.Checkpoint = tables
tables_after tables user statements.Checkpoints = tables
tables_after tables user (statements.Export number only) = tables

abbrev pub tables_with : List (Name × Table) → Entry → List (Name × Table)
tables_with tables e = tables_after tables e.user e.statement

-- the tables of a journal, in order of creation, with their rows
abbrev pub tables_at : List Entry → List (Name × Table)
tables_at journal = fold tables_with [] journal

-- what a user's statement changes of rights, at these tables
abbrev pub change_of : List (Name × Table) → User → Statement → Change
change_of tables user (statements.CreateTable table columns) = change.Create table user
change_of tables user (statements.Insert table values) = change.Other
change_of tables user (statements.Select list table filter) = change.Other
change_of tables user (statements.Delete table filter) = change.Other
change_of tables user (statements.Update table sets filter) = change.Other
change_of tables user (statements.Grant privileges table users option) =
    change.Grant user (atoms_at tables table privileges) users option
change_of tables user (statements.Revoke privileges table users) =
    change.Revoke user (atoms_at tables table privileges) users
change_of tables user (statements.RevokeOption privileges table users) =
    change.RevokeOption user (atoms_at tables table privileges) users
change_of tables user statements.Checkpoint = change.Other
change_of tables user statements.Checkpoints = change.Other
change_of tables user (statements.Export number only) = change.Other

-- the changes of rights by entries, of which the first finds these tables
abbrev pub changes_from : List (Name × Table) → List Entry → List Change
changes_from tables [] = []
changes_from tables (e ∷ es) =
    change_of tables e.user e.statement ∷ changes_from (tables_with tables e) es

-- the changes of rights by a journal: each entry as its change, at the tables of the journal before it
abbrev pub changes : List Entry → List Change
changes journal = changes_from [] journal

-- the owners, and the grants in force, after a journal
abbrev pub rights_at : List Entry → Rights
rights_at journal = content_after (changes journal)

-- what is judged by, at a journal
abbrev pub state_of : Limits → List Entry → State
state_of limits journal =
    record {
      tables = tables_at journal;
      rights = rights_at journal;
      limits = limits;
      moment = length journal;
    }

-- the verdict on what a user asks, at a journal
abbrev pub verdict_at : Limits → List Entry → User → Statement → Check
verdict_at limits journal user asked = verdict (state_of limits journal) user asked

-- each entry is a change that was allowed at the journal before it
abbrev pub IsLawfulFrom : Limits → List Entry → List Entry → Type 0
IsLawfulFrom limits before [] = Unit {0}
IsLawfulFrom limits before (e ∷ es) =
    (is_change e.statement ≡ true)
    × (verdict_at limits before e.user e.statement ≡ Ok tt)
    × IsLawfulFrom limits (before ++ e ∷ []) es

abbrev pub IsLawful : Limits → List Entry → Type 0
IsLawful limits journal = IsLawfulFrom limits [] journal

-- Which statements may be carried out: for each a list of checks, of which the first that fails is
-- the lack.
use Rattle.std.specs.Prelude.{ℕ, ◌+◌, Bool, true, false, not, nat_lt, nat_le, ◌==◌, if◌then◌else◌, List, [], ◌∷◌, length, map, is_some, Option, Some, None, Result, Ok, Err}
use Rattle.std.specs.Option.{option_map_or, unwrap_or}
use Rattle.std.specs.List.{zip}
use Rattle.base_core.specs.Values.{has_type}
use Rattle.base_core.specs.declared.name.Name.{Name}
use Rattle.base_core.specs.declared.name.User.{User}
use Rattle.base_core.specs.declared.value.Column.{Column}
use Rattle.base_core.specs.declared.value.Value.{Value}
use Rattle.base_core.specs.declared.condition.Condition.{Condition}
use Rattle.base_core.specs.declared.privilege.Kind.TheVariants as kinds
use Rattle.base_core.specs.declared.privilege.Atom.{Atom}
use Rattle.base_core.specs.Privileges.{of_table, to_select, to_update}
use Rattle.base_core.specs.declared.lack.Lack.{Lack}
use Rattle.base_core.specs.declared.lack.Lack.TheVariants.{NoTable, TableExists, NoColumn, NoPrivilege, NoGrantOption, NoGrant, NoOptionGiven, WrongCount, WrongType, Full}
use Rattle.base_core.specs.declared.lack.What.TheVariants.{Changes, Tables, Grants}
use Rattle.base_core.specs.declared.limits.Limits.{Limits}
use Rattle.reader_core.specs.declared.privilege.Privilege.{Privilege}
use Rattle.reader_core.specs.declared.statement.Statement.{Statement}
use Rattle.reader_core.specs.declared.statement.Statement.TheVariants as statements
use Rattle.tables_core.specs.Contents.{Table, table_of, column_of}
use Rattle.grants_core.specs.declared.grant.Grant.{Grant}
use Rattle.grants_core.specs.Content as rights
use Rattle.grants_core.specs.Content.{Rights, count_of}
use Rattle.monitor_core.specs.Atoms.{atoms_of, columns_given, columns_listed}
use Rattle.monitor_core.specs.declared.allowed.Allowed.{Allowed}

-- a check: passed, or the lack
abbrev pub Check : Type 0
Check = Result (Unit {0}) Lack

-- passed where the test holds
abbrev pub require : Bool → Lack → Check
require test lack = if test then Ok tt else Err lack

-- the first of the checks that fails
abbrev pub first_lack : List Check → Check
first_lack [] = Ok tt
first_lack (Ok _ ∷ more) = first_lack more
first_lack (Err lack ∷ more) = Err lack

-- a check of each, in order
abbrev pub each : {A : Type 0} → List A → (A → Check) → Check
each xs check = first_lack (map check xs)

-- what is judged by: the tables, the rights (owners and grants in force), the limits, and the
-- moment
pub record State : Type 0 where
  pub tables : List (Name × Table)
  pub rights : Rights
  pub limits : Limits
  pub moment : ℕ

-- whether there is a table of this name
abbrev pub is_table : List (Name × Table) → Name → Bool
is_table tables name = is_some (table_of tables name)

-- the columns of the table of this name, and none where there is no such table
abbrev pub columns_of : List (Name × Table) → Name → List Column
columns_of tables name = option_map_or (λ t. t.columns) (table_of tables name) []

-- whether so many more grants of the atom are within the limit
unfoldable pub has_room : List Grant → Atom → ℕ → ℕ → Bool
has_room in_force atom more limit = nat_le (count_of in_force atom + more) limit

-- the atoms that privileges on the table are
abbrev pub atoms_at : List (Name × Table) → Name → List Privilege → List Atom
atoms_at tables table privileges = atoms_of table (columns_of tables table) privileges

-- ---- the single checks
-- there is a table of this name
abbrev pub table_stands : State → Name → Check
table_stands s table = require (is_table s.tables table) (NoTable table)

-- there is none
abbrev pub table_is_new : State → Name → Check
table_is_new s table = require (not (is_table s.tables table)) (TableExists table)

-- the user holds the atom
abbrev pub holds_privilege : State → User → Atom → Check
holds_privilege s user atom =
    require (rights.holds s.rights.owners s.rights.in_force user atom) (NoPrivilege user atom)

-- the user holds SELECT of each column that the filter names: who chooses rows by what they hold
-- reads it
abbrev pub may_filter : State → User → Name → List Condition → Check
may_filter s user table filter =
    each filter (λ c. holds_privilege s user (to_select table c.column))

-- the user may grant the atom
abbrev pub holds_grant_option : State → User → Atom → Check
holds_grant_option s user atom =
    require (rights.may_grant s.rights.owners s.rights.in_force user atom) (NoGrantOption user atom)

-- a grant of the atom by the one to the other is in force
abbrev pub made_grant : State → User → Atom → User → Check
made_grant s by atom to =
    require (rights.has_made s.rights.in_force by to atom) (NoGrant by to atom)

-- a grant of the atom by the one to the other is in force with the option
abbrev pub gave_option : State → User → Atom → User → Check
gave_option s by atom to =
    require (rights.has_optioned s.rights.in_force by to atom) (NoOptionGiven by to atom)

-- there are as many values as the table has columns
abbrev pub count_is_right : State → Name → List Value → Check
count_is_right s table values =
    require (length values == length (columns_of s.tables table))
    (WrongCount (length values) (length (columns_of s.tables table)))

-- the table has a column of this name
abbrev pub column_stands : State → Name → Name → Check
column_stands s table name = require (is_some (column_of s.tables table name)) (NoColumn table name)

-- the columns that a query lists are the table's; with no list it names none
abbrev pub list_stands : State → Name → Option (List Name) → Check
list_stands s table list = each (unwrap_or list []) (column_stands s table)

-- the column takes the value
abbrev pub takes : Column → Value → Check
takes column value = require (has_type value column.ty) (WrongType column.name column.ty)

-- each of the table's columns takes the value at its place
abbrev pub types_are_right : State → Name → List Value → Check
types_are_right s table values =
    each (zip (columns_of s.tables table) values) (λ pair. takes pair.0 pair.1)

-- the table's column of this name, if there is one, takes the value
abbrev pub column_takes : State → Name → Name → Value → Check
column_takes s table name value =
    option_map_or (λ column. takes column value) (column_of s.tables table name) (Ok tt)

-- fewer changes were accepted than there may be
abbrev pub room_for_change : State → Check
room_for_change s = require (nat_lt s.moment s.limits.changes) (Full Changes)

-- there are fewer tables than there may be
abbrev pub room_for_table : State → Check
room_for_table s = require (nat_lt (length s.tables) s.limits.tables) (Full Tables)

-- a grant of the atom to each user is within the limit
abbrev pub room_for_grants : State → List User → Atom → Check
room_for_grants s users atom =
    require (has_room s.rights.in_force atom (length users) s.limits.grants) (Full Grants)

-- the columns that privileges list are the table's
abbrev pub listed_columns_stand : State → Name → List Privilege → Check
listed_columns_stand s table privileges =
    each privileges (λ p. each (columns_listed p) (column_stands s table))

-- ---- statements
-- the checks of each, in their order
abbrev pub checks : State → User → Statement → List Check
checks s user (statements.CreateTable table columns) =
    table_is_new s table ∷ room_for_change s ∷ room_for_table s ∷ []
checks s user (statements.Insert table values) =
    table_stands s table
    ∷ holds_privilege s user (of_table table kinds.Insert)
    ∷ count_is_right s table values
    ∷ types_are_right s table values
    ∷ room_for_change s
    ∷ []
checks s user (statements.Select list table filter) =
    table_stands s table
    ∷ list_stands s table list
    ∷ each filter (λ c. column_stands s table c.column)
    ∷ each (columns_given (columns_of s.tables table) list)
    (λ column. holds_privilege s user (to_select table column))
    ∷ may_filter s user table filter
    ∷ each filter (λ c. column_takes s table c.column c.literal)
    ∷ []
checks s user (statements.Delete table filter) =
    table_stands s table
    ∷ each filter (λ c. column_stands s table c.column)
    ∷ holds_privilege s user (of_table table kinds.Delete)
    ∷ may_filter s user table filter
    ∷ each filter (λ c. column_takes s table c.column c.literal)
    ∷ room_for_change s
    ∷ []
checks s user (statements.Update table sets filter) =
    table_stands s table
    ∷ each sets (λ a. column_stands s table a.column)
    ∷ each filter (λ c. column_stands s table c.column)
    ∷ each sets (λ a. holds_privilege s user (to_update table a.column))
    ∷ may_filter s user table filter
    ∷ each sets (λ a. column_takes s table a.column a.value)
    ∷ each filter (λ c. column_takes s table c.column c.literal)
    ∷ room_for_change s
    ∷ []
checks s user (statements.Grant privileges table users option) =
    table_stands s table
    ∷ listed_columns_stand s table privileges
    ∷ each (atoms_at s.tables table privileges) (holds_grant_option s user)
    ∷ room_for_change s
    ∷ each (atoms_at s.tables table privileges) (room_for_grants s users)
    ∷ []
checks s user (statements.Revoke privileges table users) =
    table_stands s table
    ∷ listed_columns_stand s table privileges
    ∷ each (atoms_at s.tables table privileges) (λ atom. each users (made_grant s user atom))
    ∷ room_for_change s
    ∷ []
checks s user (statements.RevokeOption privileges table users) =
    table_stands s table
    ∷ listed_columns_stand s table privileges
    ∷ each (atoms_at s.tables table privileges) (λ atom. each users (gave_option s user atom))
    ∷ room_for_change s
    ∷ []
checks s user statements.Checkpoint = []
checks s user statements.Checkpoints = []
checks s user (statements.Export number None) = []
checks s user (statements.Export number (Some table)) =
    table_stands s table ∷ []

-- passed, or the first lack
abbrev pub verdict : State → User → Statement → Check
verdict s user asked = first_lack (checks s user asked)

-- whether a statement is a change
abbrev pub is_change : Statement → Bool
is_change (statements.CreateTable table columns) = true
is_change (statements.Insert table values) = true
is_change (statements.Select list table filter) = false
is_change (statements.Delete table filter) = true
is_change (statements.Update table sets filter) = true
is_change (statements.Grant privileges table users option) = true
is_change (statements.Revoke privileges table users) = true
is_change (statements.RevokeOption privileges table users) = true
is_change statements.Checkpoint = false
is_change statements.Checkpoints = false
is_change (statements.Export number only) = false

-- what a verdict allows of the statement, or the lack
abbrev pub allowed_by : Check → Statement → Result Allowed Lack
allowed_by (Ok _) asked = Ok (record { change = is_change asked })
allowed_by (Err lack) asked = Err lack

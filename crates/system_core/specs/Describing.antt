-- What is told of a statement that is only described: the columns of its answer, or its denial.
use Rattle.std.specs.Prelude.{◌≡◌, ◌⊎◌, if◌then◌else◌, List, [], Option, Some, None, Ok, Err}
use Rattle.std.specs.Option.{option_map_or}
use Rattle.base_core.specs.Lacks.{is_denial}
use Rattle.base_core.specs.declared.name.Name.{Name}
use Rattle.base_core.specs.declared.value.Column.{Column}
use Rattle.base_core.specs.declared.lack.Lack.{Lack}
use Rattle.base_core.specs.declared.lack.Lack.TheVariants as lacks
use Rattle.reader_core.specs.declared.statement.Statement.{Statement}
use Rattle.reader_core.specs.declared.statement.Statement.TheVariants as statements
use Rattle.tables_core.specs.Contents.{Table}
use Rattle.monitor_core.specs.Verdict.{Check, columns_of}
use Rattle.system_core.specs.declared.machine.event.Reply.{Reply}
use Rattle.system_core.specs.declared.machine.event.Reply.TheVariants as replies
use Rattle.system_core.specs.Journal.{tables_at}
use Rattle.system_core.specs.World.{World, moment_of}
use Rattle.system_core.specs.Judging.{judged_at}

-- the table of which a statement reads or changes rows
abbrev pub table_of_rows : Statement → Option Name
table_of_rows (statements.Insert table values) = Some table
table_of_rows (statements.Select list table filter) = Some table
table_of_rows (statements.Delete table filter) = Some table
table_of_rows (statements.Update table sets filter) = Some table
table_of_rows (statements.CreateTable table columns) = None
table_of_rows (statements.Grant privileges table users option) = None
table_of_rows (statements.Revoke privileges table users) = None
table_of_rows (statements.RevokeOption privileges table users) = None
table_of_rows statements.Checkpoint = None
table_of_rows statements.Checkpoints = None
table_of_rows (statements.Export number only) = None

-- what columns are told: all of that table, in order, whichever a query lists; of any other statement none
abbrev pub columns_told : List (Name × Table) → Statement → List Column
columns_told tables asked = option_map_or (columns_of tables) (table_of_rows asked) []

-- The denial that a verdict is, if it is one. A refusal hinders no description: it may hang on the
-- values that are said, and on what is full or busy just then. Each list of checks has those that deny
-- before those that refuse, so where one denies, the first lack is a denial.
abbrev pub denial_in : Check → Option Lack
denial_in (Ok _) = None
denial_in (Err lack) = if is_denial lack then Some lack else None

-- the reply to that denial, as where the statement itself is said
abbrev pub denial_reply : World → Statement → Lack → Reply
denial_reply w asked lack = replies.Denied (judged_at w asked lack) lack

-- what may be told of a statement, by its denial: that; and where there is none the columns, or that
-- memory was refused
abbrev pub Describes : World → Statement → Option Lack → Reply → Type 0
Describes w asked (Some lack) reply = reply ≡ denial_reply w asked lack
Describes w asked None reply =
    (reply ≡ replies.Described (moment_of w) (columns_told (tables_at w.journal) asked))
    ⊎ (reply ≡ replies.Refused (moment_of w) lacks.NoMemory)

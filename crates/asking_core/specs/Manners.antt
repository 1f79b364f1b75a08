-- How a statement is asked, and what bars it.
use Rattle.std.specs.Prelude.{Bool, true, false, ◌&&◌, if◌then◌else◌, Option, Some, None}
use Rattle.messages_core.specs.declared.server.Status.{Status}
use Rattle.messages_core.specs.declared.server.Status.TheVariants as statuses
use Rattle.monitor_core.specs.Verdict.{is_change}
use Rattle.reader_core.specs.declared.statement.Statement.{Statement}
use Rattle.reader_core.specs.declared.statement.Statement.TheVariants as statements
use Rattle.utility_core.specs.declared.command.Command.{Command}
use Rattle.utility_core.specs.declared.command.Command.TheVariants as commands
use Rattle.asking_core.specs.declared.manner.Manner.{Manner}
use Rattle.asking_core.specs.declared.manner.Bar.{Bar}
use Rattle.asking_core.specs.declared.manner.Bar.TheVariants as bars

-- what bars a change, by how the block stands and whether the statement is alone
abbrev pub change_bar : Status → Bool → Option Bar
change_bar statuses.Idle true = None
change_bar statuses.Idle false = Some bars.ChangeAmongSeveral
change_bar statuses.InTransaction alone = Some bars.ChangeInBlock
change_bar statuses.InFailedTransaction alone = Some bars.FailedBlock

-- what bars any other statement: a block that has failed
abbrev pub query_bar : Status → Option Bar
query_bar statuses.Idle = None
query_bar statuses.InTransaction = None
query_bar statuses.InFailedTransaction = Some bars.FailedBlock

-- what bars this statement
abbrev pub bar_of : Manner → Statement → Option Bar
bar_of manner asked =
    if is_change asked then change_bar manner.status manner.is_alone else query_bar manner.status

-- whether it ends a block
abbrev pub ends_block : Command → Bool
ends_block commands.Commit = true
ends_block commands.Rollback = true
ends_block _ = false

-- whether a command is heard: in a block that has failed only its end
abbrev pub may_answer : Status → Command → Bool
may_answer statuses.Idle command = true
may_answer statuses.InTransaction command = true
may_answer statuses.InFailedTransaction command = ends_block command

-- whether rows of a table answer the statement
abbrev pub is_select : Statement → Bool
is_select (statements.Select list table filter) = true
is_select _ = false

-- whether the columns of its rows are to be told with them
abbrev pub wants_described : Manner → Statement → Bool
wants_described manner asked = manner.wants_columns && is_select asked

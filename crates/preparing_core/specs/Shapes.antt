-- What is told of the rows that a line answers, before it is asked.
use Rattle.std.specs.Prelude.{◌≡◌, ℕ, List, Option, Some, None, Result, Ok, Err}
use Rattle.base_core.specs.declared.name.User.{User}
use Rattle.base_core.specs.declared.value.Column.{Column}
use Rattle.base_core.specs.declared.value.Moment.{Moment}
use Rattle.reader_core.specs.Language.{Spells}
use Rattle.reader_core.specs.declared.statement.Statement.{Statement}
use Rattle.reader_core.specs.declared.statement.Statement.TheVariants as statements
use Rattle.utility_core.specs.declared.command.Command.{Command}
use Rattle.system_core.specs.declared.machine.event.Reply.{Reply}
use Rattle.system_core.specs.declared.machine.event.Reply.TheVariants as replies
use Rattle.desk_core.specs.Guarded.{DeskLock, DeskPass}
use Rattle.session_core.specs.Gains.{Watches}
use Rattle.asking_core.specs.Asking.{DescribesLine}
use Rattle.asking_core.specs.Columns.{result_columns}
use Rattle.asking_core.specs.declared.describing.Described.{Described}
use Rattle.asking_core.specs.declared.describing.Described.TheVariants as describeds
use Rattle.preparing_core.specs.declared.describing.Found.{Found}
use Rattle.preparing_core.specs.declared.describing.Found.TheVariants as founds
use Rattle.preparing_core.specs.declared.shape.Shape.{Shape}
use Rattle.preparing_core.specs.declared.shape.Shape.TheVariants as shapes
use Rattle.preparing_core.specs.declared.fault.PrepareFault.{PrepareFault}
use Rattle.preparing_core.specs.declared.fault.PrepareFault.TheVariants as faults

-- the rows that a statement answers, where these are the columns of its table
abbrev pub shape_of : Statement → List Column → Shape
shape_of (statements.Select list table filter) columns =
    shapes.Rows (result_columns (statements.Select list table filter) columns)
shape_of statements.Checkpoints columns = shapes.Checkpoints
shape_of (statements.Export number only) columns = shapes.Export
shape_of _ columns = shapes.Nothing

-- the reply that stands in the way of a description, if it is one
abbrev pub denial_told : Reply → Option PrepareFault
denial_told (replies.Described at columns) = None
denial_told reply = Some (faults.Denied reply)

-- what stands in the way of a line that is described, if anything does
abbrev pub fault_told : Described → Option PrepareFault
fault_told (describeds.Command command) = None
fault_told (describeds.Faulty code offset) = Some (faults.Faulty code offset)
fault_told describeds.Unread = Some faults.Unread
fault_told (describeds.Told reply) = denial_told reply

-- this is found of a line by what is told of it: that it is a command, or the columns of its table
abbrev pub IsFound : Described → Found → Type 0
IsFound told (founds.Command command) = told ≡ describeds.Command command
IsFound told (founds.Columns columns) =
    (at : Moment) × (told ≡ describeds.Told (replies.Described at columns))

-- A line of a user at a desk: this is told of its rows, and the pass knows this then. The last is out of
-- memory.
pub data DescribesRows {K : Type 0} (desk : DeskLock K) (user : User) (line : List ℕ)
    (old : DeskPass K) : Result Shape PrepareFault → DeskPass K → Type 0 where
  faulty : {told : Described} {fault : PrepareFault} {new : DeskPass K}
      → DescribesLine desk user line old told new → fault_told told ≡ Some fault
      → DescribesRows desk user line old (Err fault) new
  commanded : {command : Command} {new : DeskPass K}
      → DescribesLine desk user line old (describeds.Command command) new
      → DescribesRows desk user line old (Ok (shapes.Command command)) new
  shaped : {asked : Statement} {at : Moment} {columns : List Column} {new : DeskPass K}
      → DescribesLine desk user line old (describeds.Told (replies.Described at columns)) new
      → Spells line asked
      → DescribesRows desk user line old (Ok (shape_of asked columns)) new
  unread : {new : DeskPass K} → Watches old new
      → DescribesRows desk user line old (Err faults.Unread) new

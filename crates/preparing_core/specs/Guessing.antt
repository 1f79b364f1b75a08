-- The types of a statement's places, as they are guessed where a client tells none.
use Rattle.std.specs.Prelude.{◌≡◌, ◌⊎◌, ℕ, true, false, List, [], length, replicate, Some, Result, Ok, Err}
use Rattle.base_core.specs.declared.name.User.{User}
use Rattle.base_core.specs.declared.value.ColType.{ColType}
use Rattle.base_core.specs.declared.value.ColType.TheVariants as types
use Rattle.base_core.specs.declared.value.Column.{Column}
use Rattle.base_core.specs.declared.value.Moment.{Moment}
use Rattle.base_core.specs.declared.value.Value.{Value}
use Rattle.reader_core.specs.declared.statement.Statement.{Statement}
use Rattle.utility_core.specs.declared.command.Command.{Command}
use Rattle.parameters_core.specs.Statements.{is_empty_statement}
use Rattle.parameters_core.specs.Places.{IsGreatestNumber}
use Rattle.parameters_core.specs.Filling.{IsFilled, IsFillFault, SpellsWith, ones}
use Rattle.parameters_core.specs.declared.fault.FillFault.{FillFault}
use Rattle.parameters_core.specs.declared.fault.FillFault.TheVariants as fill_faults
use Rattle.binding_core.specs.Standing.{AreNumbersFrom, ArePlaceTypes}
use Rattle.system_core.specs.declared.machine.event.Reply.TheVariants as replies
use Rattle.desk_core.specs.Guarded.{DeskLock, DeskPass}
use Rattle.session_core.specs.Gains.{Watches}
use Rattle.sending_core.specs.declared.problem.Problem.TheVariants as problems
use Rattle.asking_core.specs.Asking.{DescribesLine}
use Rattle.asking_core.specs.declared.describing.Described.{Described}
use Rattle.asking_core.specs.declared.describing.Described.TheVariants as describeds
use Rattle.preparing_core.specs.declared.fault.PrepareFault.{PrepareFault}
use Rattle.preparing_core.specs.declared.fault.PrepareFault.TheVariants as faults
use Rattle.preparing_core.specs.FaultProblems.{fill_problem}
use Rattle.preparing_core.specs.Shapes.{fault_told}

-- the text with so many numbers in its places, from this one on, spells the statement
pub record IsNumbered (text : List ℕ) (first count : ℕ) (s : Statement) : Type 0 where
  pub values : List Value
  pub count_is : length values ≡ count
  pub numbers : AreNumbersFrom first values
  pub says : SpellsWith text values s

-- with these numbers it would be too long
pub record IsTooLong (text : List ℕ) (first count : ℕ) : Type 0 where
  pub values : List Value
  pub count_is : length values ≡ count
  pub numbers : AreNumbersFrom first values
  pub long : IsFillFault text values fill_faults.TooLong

-- why the text is not read with them: it would be too long, or memory was refused
pub data IsUnnumbered (text : List ℕ) (first count : ℕ) : PrepareFault → Type 0 where
  too_long : IsTooLong text first count
      → IsUnnumbered text first count (faults.Problem problems.LongLine)
  refused : IsUnnumbered text first count (faults.Problem problems.NoMemory)

-- The types of so many places, each that of the column for which the place stands: the text is read
-- with 1, 2 and so on in its places, and with 101, 102 and so on.
pub record AreGuessed (text : List ℕ) (columns : List Column) (count : ℕ) (guess : List ColType)
    : Type 0 where
  pub first : Statement
  pub second : Statement
  pub from_1 : IsNumbered text 1 count first
  pub from_101 : IsNumbered text 101 count second
  pub count_is : length guess ≡ count
  pub each : ArePlaceTypes columns first second guess

-- why they are not guessed: the text is not read with the one numbers, or with the other ones
abbrev pub AreUnguessed : List ℕ → ℕ → PrepareFault → Type 0
AreUnguessed text count fault =
    IsUnnumbered text 1 count fault ⊎ IsUnnumbered text 101 count fault

-- this is described of a text that says something, with the number 1 in each of its places
pub record DescribesStatement {K : Type 0} (desk : DeskLock K) (user : User) (text : List ℕ)
    (old : DeskPass K) (found : Described) (new : DeskPass K) : Type 0 where
  pub says_something : is_empty_statement text ≡ false
  pub line : List ℕ
  pub is_filled : IsFilled text ones line
  pub describes : DescribesLine desk user line old found new

-- The types of the places of a statement, from 1 to the greatest, as they are guessed: those of the
-- columns for which they stand, which the desk has told; those of a command are texts. Or what stands
-- in the way, at last that memory was refused.
pub data Guesses {K : Type 0} (desk : DeskLock K) (user : User) (text : List ℕ)
    (old : DeskPass K) : Result (List ColType) PrepareFault → DeskPass K → Type 0 where
  silent : is_empty_statement text ≡ true → Guesses desk user text old (Ok []) old
  unfilled : (fault : FillFault) → is_empty_statement text ≡ false
      → IsFillFault text ones fault
      → Guesses desk user text old (Err (faults.Problem (fill_problem fault))) old
  undescribed : {found : Described} {fault : PrepareFault} {new : DeskPass K}
      → DescribesStatement desk user text old found new → fault_told found ≡ Some fault
      → Guesses desk user text old (Err fault) new
  commanded : {command : Command} {number : ℕ} {new : DeskPass K}
      → DescribesStatement desk user text old (describeds.Command command) new
      → IsGreatestNumber text number
      → Guesses desk user text old (Ok (replicate number types.Text)) new
  guessed : {at : Moment} {columns : List Column} {number : ℕ} {guess : List ColType}
      {new : DeskPass K}
      → DescribesStatement desk user text old (describeds.Told (replies.Described at columns)) new
      → IsGreatestNumber text number → AreGuessed text columns number guess
      → Guesses desk user text old (Ok guess) new
  unguessed : {at : Moment} {columns : List Column} {number : ℕ} {fault : PrepareFault}
      {new : DeskPass K}
      → DescribesStatement desk user text old (describeds.Told (replies.Described at columns)) new
      → IsGreatestNumber text number → AreUnguessed text number fault
      → Guesses desk user text old (Err fault) new
  exhausted : {new : DeskPass K} → Watches old new
      → Guesses desk user text old (Err (faults.Problem problems.NoMemory)) new

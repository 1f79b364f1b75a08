-- How a statement with places is prepared: its text, and the type of each place.
use Rattle.std.specs.Prelude.{◌≡◌, ℕ, true, false, List, None, Some, Result, Ok, Err}
use Rattle.base_core.specs.declared.name.User.{User}
use Rattle.base_core.specs.declared.value.ColType.{ColType}
use Rattle.parameters_core.specs.Statements.{StandsFirst, is_empty_statement}
use Rattle.binding_core.specs.Telling.{AreNumbers, AreWanted, IsTypeFault}
use Rattle.binding_core.specs.declared.fault.TypeFault.{TypeFault}
use Rattle.desk_core.specs.Guarded.{DeskLock, DeskPass}
use Rattle.session_core.specs.Gains.{Watches}
use Rattle.sending_core.specs.declared.problem.Problem.TheVariants as problems
use Rattle.preparing_core.specs.declared.prepared.Prepared.{Prepared}
use Rattle.preparing_core.specs.declared.fault.PrepareFault.{PrepareFault}
use Rattle.preparing_core.specs.declared.fault.PrepareFault.TheVariants as faults
use Rattle.preparing_core.specs.FaultProblems.{type_problem}
use Rattle.preparing_core.specs.Guessing.{Guesses}

-- the text says this statement and no other: behind its ";", if it has one, there is nothing but layout
pub data SaysOne (text statement : List ℕ) : Type 0 where
  last : StandsFirst text statement None → SaysOne text statement
  ended : (rest : List ℕ) → StandsFirst text statement (Some rest)
      → is_empty_statement rest ≡ true → SaysOne text statement

-- it says more
pub record SaysSeveral (text : List ℕ) : Type 0 where
  pub statement : List ℕ
  pub rest : List ℕ
  pub first : StandsFirst text statement (Some rest)
  pub more : is_empty_statement rest ≡ false

-- A text that a user has prepared at a desk, with the types that his client tells: the statement and the
-- types of its places, or what stands in the way. The last is out of memory.
pub data Prepares {K : Type 0} (desk : DeskLock K) (user : User) (text told : List ℕ)
    (old : DeskPass K) : Result Prepared PrepareFault → DeskPass K → Type 0 where
  several : SaysSeveral text
      → Prepares desk user text told old (Err (faults.Problem problems.TooManyInQuery)) old
  hindered : {statement : List ℕ} {fault : PrepareFault} {new : DeskPass K}
      → SaysOne text statement → Guesses desk user statement old (Err fault) new
      → Prepares desk user text told old (Err fault) new
  mistyped : {statement : List ℕ} {guess : List ColType} (fault : TypeFault) {new : DeskPass K}
      → SaysOne text statement → Guesses desk user statement old (Ok guess) new
      → IsTypeFault told guess fault
      → Prepares desk user text told old (Err (faults.Problem (type_problem fault))) new
  prepared : {statement numbers : List ℕ} {guess wanted : List ColType} {new : DeskPass K}
      → SaysOne text statement → Guesses desk user statement old (Ok guess) new
      → AreWanted told guess wanted → AreNumbers told wanted numbers
      → Prepares desk user text told old
      (Ok (record { text = statement; types = wanted; numbers = numbers })) new
  exhausted : {new : DeskPass K} → Watches old new
      → Prepares desk user text told old (Err (faults.Problem problems.NoMemory)) new

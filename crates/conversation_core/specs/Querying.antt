-- What a Query comes to: its statements one after another, up to the first error.
use Rattle.std.specs.Prelude.{◌≡◌, ◌<◌, ◌≤◌, ◌+◌, ◌==◌, ℕ, Bool, true, false, List, [], ◌++◌, length, replicate, Option, Some, None, if◌then◌else◌}
use Rattle.base_core.specs.declared.name.User.{User}
use Rattle.reader_core.specs.declared.statement.TheConstants.{MAX_ITEMS}
use Rattle.messages_core.specs.declared.rows.Format.TheVariants as formats
use Rattle.messages_core.specs.declared.server.Status.{Status}
use Rattle.parameters_core.specs.Statements.{StandsFirst, is_empty_statement}
use Rattle.parameters_core.specs.Filling.{IsFilled, IsFillFault}
use Rattle.parameters_core.specs.declared.fault.FillFault.{FillFault}
use Rattle.desk_core.specs.Guarded.{DeskLock, DeskPass}
use Rattle.sending_core.specs.declared.item.Item.{Item}
use Rattle.sending_core.specs.declared.plain.Plain.TheVariants as plains
use Rattle.sending_core.specs.declared.problem.Problem.TheVariants as problems
use Rattle.asking_core.specs.Asking.{AsksLine}
use Rattle.asking_core.specs.declared.manner.Manner.{Manner}
use Rattle.asking_core.specs.declared.asking.Asked.{Asked}
use Rattle.preparing_core.specs.FaultProblems.{fill_problem}
use Rattle.conversation_core.specs.State.{ConversationState, behind_error}
use Rattle.conversation_core.specs.Telling.{AnswersAsked, IsAskedPlace, error, plain}
use Rattle.conversation_core.specs.declared.telling.Telling.{Telling}
use Rattle.conversation_core.specs.declared.querying.TheConstants.{MOST_STATEMENTS}

-- 1 for a statement that says something
abbrev pub said_count : List ℕ → ℕ
said_count statement = if is_empty_statement statement then 0 else 1

-- so many statements of a text say something
pub data HasStatements : List ℕ → ℕ → Type 0 where
  last : {text : List ℕ} (statement : List ℕ) → StandsFirst text statement None
      → HasStatements text (said_count statement)
  more : {text rest : List ℕ} (statement : List ℕ) {count : ℕ}
      → StandsFirst text statement (Some rest)
      → HasStatements rest count → HasStatements text (said_count statement + count)

-- how a statement of a Query is asked, where it is the only one or not: its columns are wanted
abbrev pub query_manner : Status → Bool → Manner
query_manner block alone = record { status = block; is_alone = alone; wants_columns = true }

-- how it is told: in texts, with all its rows
abbrev pub query_telling : Telling
query_telling = record {
  formats = replicate MAX_ITEMS formats.Text;
  is_described = true;
  most = None;
  portal = None;
}

-- One statement of a user's Query, which begins at this byte of its text: it is answered with these items,
-- and then the session stands so, the pass knows this, and it went well or not.
pub data AnswersStatement {K : Type 0} (desk : DeskLock K) (user : User) (text : List ℕ)
    (alone : Bool) (start : ℕ) (statement : List ℕ) (old : ConversationState) (before : DeskPass K)
    : List Item → ConversationState → DeskPass K → Bool → Type 0 where
  silent : is_empty_statement statement ≡ true
      → AnswersStatement desk user text alone start statement old before [] old before true
  unfilled : (fault : FillFault) → is_empty_statement statement ≡ false
      → IsFillFault statement [] fault
      → AnswersStatement desk user text alone start statement old before
      (error (fill_problem fault)) old before false
  asked : {line : List ℕ} {asked : Asked} {place : Option ℕ} {answer : List Item}
      {new : ConversationState} {after : DeskPass K} {well : Bool}
      → is_empty_statement statement ≡ false → IsFilled statement [] line
      → AsksLine desk user (query_manner old.block alone) line before asked after
      → IsAskedPlace text start statement asked place
      → AnswersAsked query_telling line place old asked answer new well
      → AnswersStatement desk user text alone start statement old before answer new after well

-- the statements of what is left of the text, from this byte on, up to the first that did not go well
pub data AnswersFrom {K : Type 0} (desk : DeskLock K) (user : User) (text : List ℕ) (alone : Bool)
    : ℕ → List ℕ → ConversationState → DeskPass K → List Item → ConversationState → DeskPass K
    → Type 0 where
  last : {start : ℕ} {left statement : List ℕ} {answer : List Item}
      {old new : ConversationState} {before after : DeskPass K}
      → StandsFirst left statement None
      → AnswersStatement desk user text alone start statement old before answer new after true
      → AnswersFrom desk user text alone start left old before answer new after
  more : {start : ℕ} {left statement rest : List ℕ} {answer others : List Item}
      {old mid new : ConversationState} {before between after : DeskPass K}
      → StandsFirst left statement (Some rest)
      → AnswersStatement desk user text alone start statement old before answer mid between true
      → AnswersFrom desk user text alone (start + length statement + 1) rest mid between others new
      after
      → AnswersFrom desk user text alone start left old before (answer ++ others) new after
  stopped : {start : ℕ} {left statement : List ℕ} (behind : Option (List ℕ)) {answer : List Item}
      {old new : ConversationState} {before after : DeskPass K}
      → StandsFirst left statement behind
      → AnswersStatement desk user text alone start statement old before answer new after false
      → AnswersFrom desk user text alone start left old before answer (behind_error new) after

-- that the session is ready, unless it is over
abbrev pub ready : ConversationState → List Item
ready state = if state.over then [] else plain (plains.Ready state.block)

-- A user's Query of this text: it is answered with these items, and then the session stands so and the pass
-- knows this.
pub data AnswersQuery {K : Type 0} (desk : DeskLock K) (user : User) (text : List ℕ)
    (old : ConversationState) (before : DeskPass K)
    : List Item → ConversationState → DeskPass K → Type 0 where
  silent : HasStatements text 0 → AnswersQuery desk user text old before
      (plain plains.EmptyQuery ++ ready old) old before
  too_many : {count : ℕ} → HasStatements text count → MOST_STATEMENTS < count
      → AnswersQuery desk user text old before
      (error problems.TooManyInQuery ++ ready (behind_error old)) (behind_error old) before
  answered : {count : ℕ} {answer : List Item} {new : ConversationState} {after : DeskPass K}
      → HasStatements text count → 0 < count → count ≤ MOST_STATEMENTS
      → AnswersFrom desk user text (count == 1) 0 text old before answer new after
      → AnswersQuery desk user text old before (answer ++ ready new) new after
  -- there was no memory for the items
  exhausted : {count : ℕ} → HasStatements text count → 0 < count → count ≤ MOST_STATEMENTS
      → AnswersQuery desk user text old before
      (error problems.NoMemory ++ ready (behind_error old)) (behind_error old) before

-- What the messages of the extended protocol come to (PostgreSQL's protocol 3.0, "Extended Query").
use Rattle.std.specs.Prelude.{◌≡◌, ◌≢◌, ◌≤◌, ◌<◌, ◌-◌, ◌^◌, ◌==◌, ◌||◌, ℕ, Bool, true, false, List, [], ◌∷◌, ◌++◌, length, slice_get, slice_set, Option, Some, None, Result, Ok, Err, if◌then◌else◌, nat_lt}
use Rattle.std.specs.Option.{is_some}
use Rattle.base_core.specs.declared.name.User.{User}
use Rattle.reader_core.specs.declared.statement.TheConstants.{MAX_ITEMS}
use Rattle.messages_core.specs.Columns.{format_at}
use Rattle.messages_core.specs.declared.client.Bind.{Bind}
use Rattle.messages_core.specs.declared.client.Parse.{Parse}
use Rattle.messages_core.specs.declared.rows.Format.{Format}
use Rattle.messages_core.specs.declared.server.Severity.TheVariants as severities
use Rattle.messages_core.specs.declared.server.Status.{Status}
use Rattle.parameters_core.specs.Statements.{is_empty_statement}
use Rattle.parameters_core.specs.Filling.{IsFilled, IsFillFault, ones}
use Rattle.parameters_core.specs.declared.fault.FillFault.{FillFault}
use Rattle.binding_core.specs.Binding.{Binds, IsBindFault}
use Rattle.binding_core.specs.Formats.{AreFormats, IsUnknownFormat}
use Rattle.binding_core.specs.declared.fault.BindFault.{BindFault}
use Rattle.answer_core.specs.declared.tag.Tag.TheVariants as tags
use Rattle.answer_core.specs.declared.unsent.Portal.{Portal as RowsLeft}
use Rattle.desk_core.specs.Guarded.{DeskLock, DeskPass}
use Rattle.sending_core.specs.CommandTexts.{command_column}
use Rattle.sending_core.specs.declared.item.Item.{Item}
use Rattle.sending_core.specs.declared.item.Item.TheVariants as items
use Rattle.sending_core.specs.declared.plain.Plain.{Plain}
use Rattle.sending_core.specs.declared.plain.Plain.TheVariants as plains
use Rattle.sending_core.specs.declared.problem.Problem.{Problem}
use Rattle.sending_core.specs.declared.problem.Problem.TheVariants as problems
use Rattle.asking_core.specs.Asking.{AsksLine}
use Rattle.asking_core.specs.declared.manner.Manner.{Manner}
use Rattle.asking_core.specs.declared.asking.Asked.{Asked}
use Rattle.preparing_core.specs.FaultProblems.{bind_problem, fill_problem}
use Rattle.preparing_core.specs.Preparing.{Prepares, SaysOne}
use Rattle.preparing_core.specs.Shapes.{DescribesRows}
use Rattle.preparing_core.specs.declared.prepared.Prepared.{Prepared}
use Rattle.preparing_core.specs.declared.shape.Shape.{Shape}
use Rattle.preparing_core.specs.declared.shape.Shape.TheVariants as shapes
use Rattle.preparing_core.specs.declared.fault.PrepareFault.{PrepareFault}
use Rattle.preparing_core.specs.declared.fault.PrepareFault.TheVariants as faults
use Rattle.conversation_core.specs.Portals.{IsPortalNamed, KeepsPortal, with_portal}
use Rattle.conversation_core.specs.State.{ConversationState, behind_problem, is_unnamed, portal_count, portal_place, statement_count, statement_named, with_statement}
use Rattle.conversation_core.specs.Telling.{AnswersAsked, IsFaultPlace, error, plain}
use Rattle.conversation_core.specs.declared.portals.Bound.{Bound}
use Rattle.conversation_core.specs.declared.portals.TheConstants.{MOST_PORTALS}
use Rattle.conversation_core.specs.declared.statements.NamedStatement.{NamedStatement}
use Rattle.conversation_core.specs.declared.statements.TheConstants.{MOST_PREPARED}
use Rattle.conversation_core.specs.declared.telling.Telling.{Telling}

-- ---- Parse
-- what stands in the way of a name for a statement
pub data IsNameFault (statements : List NamedStatement) (name : List ℕ) : Problem → Type 0 where
  taken : is_unnamed name ≡ false → statement_named name statements ≢ None
      → IsNameFault statements name problems.StatementExists
  full : is_unnamed name ≡ false → statement_named name statements ≡ None
      → MOST_PREPARED ≤ statement_count statements
      → IsNameFault statements name problems.TooManyStatements

-- nothing does: the unnamed one is replaced, and a named one is new
pub data IsNameFree (statements : List NamedStatement) (name : List ℕ) : Type 0 where
  unnamed : is_unnamed name ≡ true → IsNameFree statements name
  named : is_unnamed name ≡ false → statement_named name statements ≡ None
      → statement_count statements < MOST_PREPARED → IsNameFree statements name

-- What is told of a statement that is not prepared, or not described; the place is that of its fault. A
-- denial is told as where the statement itself is said.
abbrev pub fault_item : PrepareFault → Option ℕ → Item
fault_item (faults.Problem problem) place = items.Plain (plains.Error severities.Error problem)
fault_item (faults.Faulty code offset) place = items.Plain (plains.Fault code offset place)
fault_item faults.Unread place = items.Plain plains.Unread
fault_item (faults.Denied reply) place =
    items.Answer (record { tag = tags.Select; formats = []; most = None }) reply None

abbrev pub fault_items : PrepareFault → Option ℕ → List Item
fault_items fault place = fault_item fault place ∷ []

-- the place of a fault of the one statement of a text
abbrev pub IsPreparePlace : List ℕ → PrepareFault → Option ℕ → Type 0
IsPreparePlace text (faults.Faulty code offset) place =
    (statement : List ℕ) → SaysOne text statement → IsFaultPlace text 0 statement offset place
IsPreparePlace text _ place = place ≡ None

pub data AnswersParse {K : Type 0} (desk : DeskLock K) (user : User) (parse : Parse)
    (old : ConversationState) (before : DeskPass K)
    : List Item → ConversationState → DeskPass K → Type 0 where
  misnamed : {problem : Problem} → IsNameFault old.statements parse.name problem
      → AnswersParse desk user parse old before (error problem) (behind_problem old) before
  refused : {fault : PrepareFault} (place : Option ℕ) {after : DeskPass K}
      → IsNameFree old.statements parse.name
      → Prepares desk user parse.text parse.types before (Err fault) after
      → IsPreparePlace parse.text fault place
      → AnswersParse desk user parse old before (fault_items fault place) (behind_problem old) after
  prepared : {made : Prepared} {after : DeskPass K} → IsNameFree old.statements parse.name
      → Prepares desk user parse.text parse.types before (Ok made) after
      → AnswersParse desk user parse old before (plain plains.ParseComplete)
      (record old { statements = with_statement parse.name made old.statements }) after
  -- there was no memory to keep it
  exhausted : {made : Prepared} {after : DeskPass K} → IsNameFree old.statements parse.name
      → Prepares desk user parse.text parse.types before (Ok made) after
      → AnswersParse desk user parse old before (error problems.NoMemory) (behind_problem old) after

-- ---- Bind
-- what stands in the way of a name for a portal
pub data IsPortalNameFault (portals : List (Option Bound)) (name : List ℕ) : Problem → Type 0 where
  taken : is_unnamed name ≡ false → portal_place name portals ≢ None
      → IsPortalNameFault portals name problems.PortalExists
  full : is_unnamed name ≡ false → portal_place name portals ≡ None
      → MOST_PORTALS ≤ portal_count portals
      → IsPortalNameFault portals name problems.TooManyPortals

-- nothing does: the unnamed one is replaced, and a named one is new
pub data IsPortalNameFree (portals : List (Option Bound)) (name : List ℕ) : Type 0 where
  unnamed : is_unnamed name ≡ true → IsPortalNameFree portals name
  named : is_unnamed name ≡ false → portal_place name portals ≡ None
      → portal_count portals < MOST_PORTALS → IsPortalNameFree portals name

-- a Bind makes this portal of a prepared statement
pub record MakesPortal (old : ConversationState) (bind : Bind) (portal : Bound) : Type 0 where
  pub made : NamedStatement
  pub prepared : statement_named bind.statement old.statements ≡ Some made
  pub free : IsPortalNameFree old.portals bind.portal
  pub name_is : portal.name ≡ bind.portal
  pub binds : Binds made.prepared.text made.prepared.types bind.formats bind.values portal.line
  pub whole : length portal.formats ≡ MAX_ITEMS
  pub formats_are : AreFormats bind.result_formats portal.formats
  pub fresh : portal.was_executed ≡ false

-- What stands in the way of a portal of a prepared statement: of the statement, of the name, of the
-- values, or of the formats of the result, the first of these.
pub data IsPortalFault (old : ConversationState) (bind : Bind) : Problem → Type 0 where
  not_prepared : statement_named bind.statement old.statements ≡ None
      → IsPortalFault old bind problems.NoStatement
  misnamed : {made : NamedStatement} {problem : Problem}
      → statement_named bind.statement old.statements ≡ Some made
      → IsPortalNameFault old.portals bind.portal problem → IsPortalFault old bind problem
  unbound : {made : NamedStatement} (fault : BindFault)
      → statement_named bind.statement old.statements ≡ Some made
      → IsPortalNameFree old.portals bind.portal
      → IsBindFault made.prepared.text made.prepared.types bind.formats bind.values fault
      → IsPortalFault old bind (bind_problem fault)
  unformatted : {made : NamedStatement} {line : List ℕ} {code : ℕ}
      → statement_named bind.statement old.statements ≡ Some made
      → IsPortalNameFree old.portals bind.portal
      → Binds made.prepared.text made.prepared.types bind.formats bind.values line
      → IsUnknownFormat bind.result_formats code
      → IsPortalFault old bind problems.UnknownFormat
  -- there was no memory to keep it
  exhausted : {portal : Bound} → MakesPortal old bind portal
      → IsPortalFault old bind problems.NoMemory

pub data AnswersBind (bind : Bind) (old : ConversationState)
    : List Item → ConversationState → Type 0 where
  unmade : {problem : Problem} → IsPortalFault old bind problem
      → AnswersBind bind old (error problem) (behind_problem old)
  bound : {portal : Bound} {new : ConversationState} → MakesPortal old bind portal
      → KeepsPortal portal old new → AnswersBind bind old (plain plains.BindComplete) new

-- ---- Describe
-- what describes rows, in these formats
abbrev pub shape_message : List Format → Shape → Plain
shape_message fs shapes.Nothing = plains.NoData
shape_message fs (shapes.Rows columns) = plains.Columns columns fs
shape_message fs shapes.Checkpoints = plains.CheckpointColumns fs
shape_message fs shapes.Export = plains.ExportColumns fs
shape_message fs (shapes.Command command) =
    let format = format_at fs 0 in
    if is_some (command_column command format) then plains.CommandColumn command format
    else plains.NoData

-- What describes the rows of a line, in these formats, or why it is not described. A line that says
-- nothing has none.
pub data DescribesLineRows {K : Type 0} (desk : DeskLock K) (user : User) (line : List ℕ)
    (fs : List Format) (before : DeskPass K)
    : Result Plain PrepareFault → DeskPass K → Type 0 where
  silent : is_empty_statement line ≡ true
      → DescribesLineRows desk user line fs before (Ok plains.NoData) before
  shaped : {shape : Shape} {after : DeskPass K} → is_empty_statement line ≡ false
      → DescribesRows desk user line before (Ok shape) after
      → DescribesLineRows desk user line fs before (Ok (shape_message fs shape)) after
  refused : {fault : PrepareFault} {after : DeskPass K} → is_empty_statement line ≡ false
      → DescribesRows desk user line before (Err fault) after
      → DescribesLineRows desk user line fs before (Err fault) after

-- Describe of a portal: the line is that of its statement with its values
pub data AnswersPortalDescribe {K : Type 0} (desk : DeskLock K) (user : User) (name : List ℕ)
    (old : ConversationState) (before : DeskPass K)
    : List Item → ConversationState → DeskPass K → Type 0 where
  not_bound : portal_place name old.portals ≡ None
      → AnswersPortalDescribe desk user name old before (error problems.NoPortal)
      (behind_problem old) before
  described : {portal : Bound} {message : Plain} {after : DeskPass K}
      → IsPortalNamed name old.portals portal
      → DescribesLineRows desk user portal.line portal.formats before (Ok message) after
      → AnswersPortalDescribe desk user name old before (plain message) old after
  refused : {portal : Bound} {fault : PrepareFault} {after : DeskPass K}
      → IsPortalNamed name old.portals portal
      → DescribesLineRows desk user portal.line portal.formats before (Err fault) after
      → AnswersPortalDescribe desk user name old before (fault_items fault None)
      (behind_problem old) after

-- What describes a prepared statement: the numbers of its places' types in PostgreSQL's catalogue, and its
-- rows, in no formats. Its line has the number 1 in each place.
pub data DescribesPrepared {K : Type 0} (desk : DeskLock K) (user : User) (made : Prepared)
    (before : DeskPass K)
    : Result (List ℕ × Plain) PrepareFault → DeskPass K → Type 0 where
  unfilled : (fault : FillFault) → IsFillFault made.text ones fault
      → DescribesPrepared desk user made before (Err (faults.Problem (fill_problem fault))) before
  described : {line : List ℕ} {message : Plain} {after : DeskPass K}
      → IsFilled made.text ones line → DescribesLineRows desk user line [] before (Ok message) after
      → DescribesPrepared desk user made before (Ok (made.numbers, message)) after
  refused : {line : List ℕ} {fault : PrepareFault} {after : DeskPass K}
      → IsFilled made.text ones line → DescribesLineRows desk user line [] before (Err fault) after
      → DescribesPrepared desk user made before (Err fault) after
  -- there was no memory for the types
  exhausted : DescribesPrepared desk user made before (Err (faults.Problem problems.NoMemory))
      before

-- Describe of a prepared statement
pub data AnswersStatementDescribe {K : Type 0} (desk : DeskLock K) (user : User) (name : List ℕ)
    (old : ConversationState) (before : DeskPass K)
    : List Item → ConversationState → DeskPass K → Type 0 where
  not_prepared : statement_named name old.statements ≡ None
      → AnswersStatementDescribe desk user name old before (error problems.NoStatement)
      (behind_problem old) before
  described : {made : NamedStatement} {types : List ℕ} {message : Plain} {after : DeskPass K}
      → statement_named name old.statements ≡ Some made
      → DescribesPrepared desk user made.prepared before (Ok (types, message)) after
      → AnswersStatementDescribe desk user name old before
      (plain (plains.Types types) ++ plain message) old after
  refused : {made : NamedStatement} {fault : PrepareFault} {after : DeskPass K}
      → statement_named name old.statements ≡ Some made
      → DescribesPrepared desk user made.prepared before (Err fault) after
      → AnswersStatementDescribe desk user name old before (fault_items fault None)
      (behind_problem old) after

-- ---- Execute
-- how many rows are asked for: 0 is no limit, and so is a negative number
abbrev pub most_rows : ℕ → Option ℕ
most_rows most = if (most == 0) || nat_lt (2 ^ 31 - 1) most then None else Some most

-- how a portal's statement is asked: alone, and not described
abbrev pub execute_manner : Status → Manner
execute_manner block = record { status = block; is_alone = true; wants_columns = false }

-- how it is told: what is left stays with the portal
abbrev pub execute_telling : Bound → ℕ → ℕ → Telling
execute_telling portal most place = record {
  formats = portal.formats;
  is_described = false;
  most = most_rows most;
  portal = Some place;
}

-- the portal was executed
abbrev pub executed : Bound → Bound
executed portal = record portal { was_executed = true }

-- an error has what follows passed over
abbrev pub behind_execute : Bool → ConversationState → ConversationState
behind_execute true new = new
behind_execute false new = behind_problem new

-- A portal that was not executed is asked, and stands in its place then.
pub data AsksPortal {K : Type 0} (desk : DeskLock K) (user : User) (most place : ℕ)
    (portal : Bound) (old : ConversationState) (before : DeskPass K)
    : List Item → ConversationState → DeskPass K → Type 0 where
  silent : is_empty_statement portal.line ≡ true
      → AsksPortal desk user most place portal old before (plain plains.EmptyQuery)
      (with_portal place (Some (executed portal)) old) before
  asked : {asked : Asked} {answer : List Item} {new : ConversationState} {after : DeskPass K}
      {well : Bool} → is_empty_statement portal.line ≡ false
      → AsksLine desk user (execute_manner old.block) portal.line before asked after
      → AnswersAsked (execute_telling portal most place) portal.line None
      (with_portal place (Some (executed portal)) old) asked answer new well
      → AsksPortal desk user most place portal old before answer (behind_execute well new) after

-- A portal is executed: it goes on with the rows that are left, or is asked.
pub data ExecutesPortal {K : Type 0} (desk : DeskLock K) (user : User) (most place : ℕ)
    (portal : Bound) (old : ConversationState) (before : DeskPass K)
    : List Item → ConversationState → DeskPass K → Type 0 where
  resumed : {left : RowsLeft} → slice_get old.lefts place ≡ Some (Some left)
      → ExecutesPortal desk user most place portal old before
      (items.Rest (record { portal = left; most = most_rows most }) (Some place) ∷ [])
      (record old { lefts = slice_set old.lefts place None }) before
  done : slice_get old.lefts place ≡ Some None → portal.was_executed ≡ true
      → ExecutesPortal desk user most place portal old before (error problems.PortalDone)
      (behind_problem old) before
  fresh : {answer : List Item} {new : ConversationState} {after : DeskPass K}
      → slice_get old.lefts place ≡ Some None → portal.was_executed ≡ false
      → AsksPortal desk user most place portal old before answer new after
      → ExecutesPortal desk user most place portal old before answer new after

pub data AnswersExecute {K : Type 0} (desk : DeskLock K) (user : User) (name : List ℕ) (most : ℕ)
    (old : ConversationState) (before : DeskPass K)
    : List Item → ConversationState → DeskPass K → Type 0 where
  not_bound : portal_place name old.portals ≡ None
      → AnswersExecute desk user name most old before (error problems.NoPortal) (behind_problem old)
      before
  found : {place : ℕ} {portal : Bound} {answer : List Item} {new : ConversationState}
      {after : DeskPass K} → portal_place name old.portals ≡ Some place
      → slice_get old.portals place ≡ Some (Some portal)
      → ExecutesPortal desk user most place portal old before answer new after
      → AnswersExecute desk user name most old before answer new after

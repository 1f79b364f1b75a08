-- What comes of a line that is asked at a desk.
use Rattle.std.specs.Prelude.{◌≡◌, ℕ, true, false, List, Option, Some, None}
use Rattle.base_core.specs.declared.name.User.{User}
use Rattle.base_core.specs.declared.value.Column.{Column}
use Rattle.base_core.specs.declared.value.Moment.{Moment}
use Rattle.lexer_core.specs.Lexing.{AreTokens}
use Rattle.lexer_core.specs.declared.fault.Code.{Code}
use Rattle.lexer_core.specs.declared.token.Token.{Token}
use Rattle.reader_core.specs.Language.{Spells, IsReadFault}
use Rattle.reader_core.specs.declared.statement.Statement.{Statement}
use Rattle.monitor_core.specs.Verdict.{is_change}
use Rattle.utility_core.specs.Words.{words_of}
use Rattle.utility_core.specs.Commands.{command_in, is_version_question, underscored_name}
use Rattle.utility_core.specs.declared.command.Command.{Command}
use Rattle.utility_core.specs.declared.command.Command.TheVariants as commands
use Rattle.answer_core.specs.Tags.{tag_of}
use Rattle.turnstile.specs.Passes.{IsSamePass}
use Rattle.system_core.specs.declared.machine.event.Reply.{Reply}
use Rattle.system_core.specs.declared.machine.event.Reply.TheVariants as replies
use Rattle.desk_core.specs.declared.object.Ask.TheVariants as asks
use Rattle.desk_core.specs.Guarded.{DeskLock, DeskPass}
use Rattle.desk_core.specs.Turns.{Answered, Took}
use Rattle.asking_core.specs.Columns.{result_columns}
use Rattle.asking_core.specs.Manners.{bar_of, may_answer, wants_described}
use Rattle.asking_core.specs.declared.manner.Manner.{Manner}
use Rattle.asking_core.specs.declared.manner.Bar.{Bar}
use Rattle.asking_core.specs.declared.manner.Bar.TheVariants as bars
use Rattle.asking_core.specs.declared.asking.Asked.{Asked}
use Rattle.asking_core.specs.declared.asking.Asked.TheVariants as askeds
use Rattle.asking_core.specs.declared.describing.Described.{Described}
use Rattle.asking_core.specs.declared.describing.Described.TheVariants as describeds

-- the line is this command: by its words; or the question for the version, which has a dot; or it drops a
-- statement whose name begins with "_"
pub data IsCommand (line : List ℕ) : Command → Type 0 where
  worded : {tokens : List Token} {command : Command} → AreTokens line tokens
      → command_in (words_of line tokens) ≡ Some command → IsCommand line command
  asks_version : is_version_question line ≡ true → IsCommand line commands.Version
  underscored : {name : List ℕ} → underscored_name line ≡ Some name
      → IsCommand line commands.DeallocateUnderscored

-- it is none
abbrev pub IsNoCommand : List ℕ → Type 0
IsNoCommand line = (command : Command) → IsCommand line command → ⊥

-- A line that says no statement: it is a command, which is heard or barred, or it is faulty; or there was
-- no memory to tell these apart.
pub data Declines (line : List ℕ) (manner : Manner) : Asked → Type 0 where
  commanded : {command : Command} → IsCommand line command
      → may_answer manner.status command ≡ true → Declines line manner (askeds.Command command)
  too_late : {command : Command} → IsCommand line command
      → may_answer manner.status command ≡ false
      → Declines line manner (askeds.Barred bars.FailedBlock)
  faulty : {code : Code} {offset : ℕ} → IsReadFault line code offset → IsNoCommand line
      → Declines line manner (askeds.Faulty code offset)
  undecided : Declines line manner askeds.Unread

-- A statement that is said, with these columns of its rows: the desk's answer to it, or that it is
-- withheld, as of a change alone.
pub data AsksStatement {K : Type 0} (desk : DeskLock K) (user : User) (asked : Statement)
    (columns : Option (List Column)) (old : DeskPass K) : Asked → DeskPass K → Type 0 where
  told : {reply : Reply} {new : DeskPass K} → IsSamePass old new
      → Answered desk (asks.Say (record { user = user; statement = asked })) reply old new
      → AsksStatement desk user asked columns old (askeds.Told (tag_of asked) reply columns) new
  withheld : {reply : Reply} {new : DeskPass K} → is_change asked ≡ true → IsSamePass old new
      → Took desk (asks.Say (record { user = user; statement = asked })) reply old new
      → AsksStatement desk user asked columns old askeds.Withheld new

-- A turn that describes the statement has answered so.
abbrev pub IsDescribed : {K : Type 0} → DeskLock K → User → Statement → Reply → DeskPass K
    → DeskPass K → Type 0
IsDescribed desk user asked reply old new =
    IsSamePass old new
    × Answered desk (asks.Describe (record { user = user; statement = asked })) reply old new

-- the reply tells no columns
abbrev pub TellsNoColumns : Reply → Type 0
TellsNoColumns reply = (at : Moment) (columns : List Column) → reply ≡ replies.Described at columns → ⊥

-- A line of a user at a desk, asked in this manner: it comes to this, and the pass knows this then.
pub data AsksLine {K : Type 0} (desk : DeskLock K) (user : User) (manner : Manner) (line : List ℕ)
    (old : DeskPass K) : Asked → DeskPass K → Type 0 where
  declined : {asked : Asked} → Declines line manner asked → AsksLine desk user manner line old asked old
  unread : AsksLine desk user manner line old askeds.Unread old
  barred : {asked : Statement} {bar : Bar} → Spells line asked → bar_of manner asked ≡ Some bar
      → AsksLine desk user manner line old (askeds.Barred bar) old
  said : {asked : Statement} {answer : Asked} {new : DeskPass K} → Spells line asked
      → bar_of manner asked ≡ None → wants_described manner asked ≡ false
      → AsksStatement desk user asked None old answer new
      → AsksLine desk user manner line old answer new
  undescribed : {asked : Statement} {reply : Reply} {new : DeskPass K} → Spells line asked
      → bar_of manner asked ≡ None → wants_described manner asked ≡ true
      → IsDescribed desk user asked reply old new → TellsNoColumns reply
      → AsksLine desk user manner line old (askeds.Told (tag_of asked) reply None) new
  unread_behind : {asked : Statement} {at : Moment} {columns : List Column} {new : DeskPass K}
      → Spells line asked
      → bar_of manner asked ≡ None → wants_described manner asked ≡ true
      → IsDescribed desk user asked (replies.Described at columns) old new
      → AsksLine desk user manner line old askeds.Unread new
  described : {asked : Statement} {at : Moment} {columns : List Column} {answer : Asked}
      {mid new : DeskPass K} → Spells line asked
      → bar_of manner asked ≡ None → wants_described manner asked ≡ true
      → IsDescribed desk user asked (replies.Described at columns) old mid
      → AsksStatement desk user asked (Some (result_columns asked columns)) mid answer new
      → AsksLine desk user manner line old answer new

-- What is told of a line that says no statement and is only described: that it is a command, its one
-- fault, or that there was no memory to tell these apart.
pub data IsUnsaid (line : List ℕ) : Described → Type 0 where
  commanded : {command : Command} → IsCommand line command
      → IsUnsaid line (describeds.Command command)
  faulty : {code : Code} {offset : ℕ} → IsReadFault line code offset → IsNoCommand line
      → IsUnsaid line (describeds.Faulty code offset)
  undecided : IsUnsaid line describeds.Unread

-- A line of a user at a desk that is only described: this is told of it, and the pass knows this then.
pub data DescribesLine {K : Type 0} (desk : DeskLock K) (user : User) (line : List ℕ)
    (old : DeskPass K) : Described → DeskPass K → Type 0 where
  unsaid : {told : Described} → IsUnsaid line told → DescribesLine desk user line old told old
  unread : DescribesLine desk user line old describeds.Unread old
  answered : {asked : Statement} {reply : Reply} {new : DeskPass K} → Spells line asked
      → IsDescribed desk user asked reply old new
      → DescribesLine desk user line old (describeds.Told reply) new

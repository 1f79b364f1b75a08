-- A script whose changes are kept, each before its reply is written.
-- A keeper's rules are as in journal_core's Keeping, the other names those of lines_core's Serving.
use Rattle.std.specs.Prelude.{◌≡◌, ◌⊎◌, ℕ, Bool, true, false, List, [], ◌∷◌, ◌++◌, codes, Result, Ok, Err}
use Rattle.base_core.specs.Full.{IsFull}
use Rattle.base_core.specs.declared.limits.Limits.{Limits}
use Rattle.lines_core.specs.Endings.{session_fault_text}
use Rattle.lines_core.specs.Serving.{AnswersAll, Ends, Traffic}
use Rattle.lines_core.specs.declared.serving.SessionFault.{SessionFault}
use Rattle.lines_core.specs.declared.serving.SessionFault.TheVariants as session_faults
use Rattle.system_core.specs.World.{World, opening}
use Rattle.system_core.specs.declared.machine.event.Entry.{Entry}
use Rattle.journal_core.specs.Keeping.{KeepsAll}
use Rattle.journal_core.specs.declared.keeper.Keeper.{Ghosts}
use Rattle.journal_core.specs.Recorder.{WithKeeper, with_keeper}
use Rattle.script_core.specs.Script.{AnswersLine, Answers}
use Rattle.script_core.specs.declared.scripts.fault.ScriptFault.{ScriptFault}
use Rattle.script_core.specs.declared.scripts.fault.ScriptFault.TheVariants as faults

-- the entries by which the journal grew were kept
pub record KeepsNew {K : Type 0} (rules : Ghosts K) (old new : WithKeeper K) : Type 0 where
  pub entries : List Entry
  pub journal : new.world.journal ≡ old.world.journal ++ entries
  pub kept : KeepsAll rules.keeps old.keeper entries new.keeper

-- the journal grew by one entry, and what is left of that is owed
pub record OwesNew {K : Type 0} (rules : Ghosts K) (old new : WithKeeper K) : Type 0 where
  pub entry : Entry
  pub journal : new.world.journal ≡ old.world.journal ++ entry ∷ []
  pub owes : rules.owes old.keeper entry new.keeper

-- From old, this text may be written for the line, and new is the next state: an answer, and its
-- change, if it has one, was kept; or nothing, where the change could not be kept, so that the reply
-- is withheld. Once that has happened it is over, and nothing is written for any line.
pub data AnswersKept {K : Type 0} (rules : Ghosts K) (old : WithKeeper K) (line : List ℕ)
    : List ℕ → WithKeeper K → Type 0 where
  over : rules.owing old.keeper ≡ true → AnswersKept rules old line [] old
  answered : {text : List ℕ} {new : WithKeeper K}
      → rules.owing old.keeper ≡ false
      → rules.owing new.keeper ≡ false
      → Answers old.world line text new.world
      → KeepsNew rules old new
      → AnswersKept rules old line text new
  withheld : {text : List ℕ} {new : WithKeeper K}
      → rules.owing old.keeper ≡ false
      → rules.owing new.keeper ≡ true
      → AnswersLine old.world line text new.world
      → OwesNew rules old new
      → AnswersKept rules old line [] new

-- Of the lines a front was answered, and its changes were kept. It is all lines; or the change of the
-- next line could not be kept, and neither that line nor one behind it was answered.
pub data AnswersFront {K : Type 0} (rules : Ghosts K) (old : WithKeeper K)
    (lines : List (List ℕ)) (text : List ℕ) (new : WithKeeper K) : Type 0 where
  all : rules.owing new.keeper ≡ false
      → AnswersAll Answers old.world lines text new.world
      → KeepsNew rules old new
      → AnswersFront rules old lines text new
  some : (front behind : List (List ℕ)) (line reply : List ℕ) (mid : WithKeeper K)
      → rules.owing new.keeper ≡ true
      → lines ≡ front ++ line ∷ behind
      → AnswersAll Answers old.world front text mid.world
      → KeepsNew rules old mid
      → AnswersLine mid.world line reply new.world
      → OwesNew rules mid new
      → AnswersFront rules old lines text new

abbrev pub is_owing : {K : Type 0} → Ghosts K → WithKeeper K → Bool
is_owing rules s = rules.owing s.keeper

-- how the answering of lines ends, from a world
abbrev pub EndsWithKeeper : {K : Type 0} → Ghosts K → World → Result (Unit {0}) SessionFault
    → World → K → K → Traffic → Type 0
EndsWithKeeper rules start ending new keeper keeper' traffic =
    Ends (AnswersKept rules) (is_owing rules) ending
    (with_keeper start keeper) (with_keeper new keeper') traffic

-- How a script ends from a world, if its changes are kept. The keeper owes exactly where that is the
-- fault; then the script was over, or the writer failed besides.
abbrev pub EndsKeptFrom : {K : Type 0} → Ghosts K → World → Result World ScriptFault
    → K → K → Traffic → Type 0
EndsKeptFrom rules start (Ok new) keeper keeper' traffic =
    (rules.owing keeper' ≡ false)
    × EndsWithKeeper rules start (Ok tt) new keeper keeper' traffic
EndsKeptFrom rules start (Err (faults.Session fault)) keeper keeper' traffic =
    (rules.owing keeper' ≡ false)
    × (new : World)
    × EndsWithKeeper rules start (Err fault) new keeper keeper' traffic
EndsKeptFrom rules start (Err faults.Journal) keeper keeper' traffic =
    (rules.owing keeper' ≡ true)
    × (new : World)
    × (EndsWithKeeper rules start (Ok tt) new keeper keeper' traffic
    ⊎ EndsWithKeeper rules start (Err session_faults.Write) new keeper keeper' traffic)

-- how it ends from the opening world with full limits
abbrev pub EndsKept : {K : Type 0} → Ghosts K → ℕ → Result World ScriptFault
    → K → K → Traffic → Type 0
EndsKept rules chunk result keeper keeper' traffic =
    (limits : Limits)
    × IsFull limits
    × EndsKeptFrom rules (opening chunk limits) result keeper keeper' traffic

-- what is told of a fault that ended a script
abbrev pub script_fault_text : ScriptFault → List ℕ
script_fault_text (faults.Session fault) = session_fault_text fault
script_fault_text faults.Journal = codes "sysr: journal fault"

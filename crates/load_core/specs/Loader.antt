-- A loader: how it goes on by a line, and what it gives in the end.
use Rattle.std.specs.Prelude.{◌≡◌, ℕ, ◌+◌, ◌<◌, Bool, true, List, [], ◌∷◌, length, Option, Some, None, Result, Ok, Err, refl}
use Rattle.std.specs.Option.{is_some}
use Rattle.std.proofs.Common.{arith, sym, subst, Vec, Global}
use Rattle.std.proofs.lemmas.Bool.Decides.{nat_tests}
use Rattle.lines_core.specs.declared.line.TheConstants.{LONGEST_LINE}
use Rattle.lines_core.specs.declared.serving.SessionFault.{SessionFault}
use Rattle.lines_core.specs.declared.serving.SessionFault.TheVariants as sessions
use Rattle.monitor_core.specs.Verdict.{is_change}
use Rattle.system_core.specs.Journal.{verdict_at}
use Rattle.system_core.specs.World.{World, with_entry}
use Rattle.system_core.specs.declared.machine.event.Entry.{Entry}
use Rattle.script_core.specs.TooLong.{asks-too_long, addressed-too_long, fault-too_long}
use Rattle.load_core.specs.declared.fault.Undone.{Undone}
use Rattle.load_core.specs.declared.fault.Undone.TheVariants as reasons
use Rattle.load_core.specs.declared.loading.Loaded.{Loaded}
use Rattle.load_core.specs.declared.fault.LoadFault.{LoadFault}
use Rattle.load_core.specs.declared.fault.LoadFault.TheVariants as faults
use Rattle.load_core.specs.Loading.{SaysEntry, SaysChange, IsUndone, IsUndoneEntry, unmarked, lines_unmarked}

-- what a loader has come to: the world, and why it stopped, if it did
pub record LoaderState : Type 0 where
  pub world : World
  pub stop : Option Undone

-- the line as it is read at a journal: the first without its byte order mark
abbrev pub line_at : List Entry → List ℕ → List ℕ
line_at [] line = unmarked line
line_at (e ∷ es) line = line

-- the lines as they are read from a journal on
abbrev pub lines_at : List Entry → List (List ℕ) → List (List ℕ)
lines_at [] lines = lines_unmarked lines
lines_at (e ∷ es) lines = lines

-- what an entry comes to at a world: it is entered as an allowed change, or this is why it is not
abbrev pub EntersEntry : World → Entry → Option Undone → World → Type 0
EntersEntry old e None new =
    (is_change e.statement ≡ true)
    × (verdict_at old.limits old.journal e.user e.statement ≡ Ok tt)
    × (new ≡ with_entry old e)
EntersEntry old e (Some why) new = IsUndoneEntry old e why × (new ≡ old)

-- what a line comes to that may have so many bytes
abbrev pub EntersUpTo : ℕ → World → List ℕ → Option Undone → World → Type 0
EntersUpTo most old line None new =
    (e : Entry) × SaysChange most old.limits old.journal line e × (new ≡ with_entry old e)
EntersUpTo most old line (Some why) new = IsUndone most old line why × (new ≡ old)

-- what a journal's line comes to
abbrev pub EntersLine : World → List ℕ → Option Undone → World → Type 0
EntersLine old line stop new = EntersUpTo LONGEST_LINE old line stop new

-- what it comes to at a loader, which passes over it once it has stopped
abbrev pub EntersOrPasses : Option Undone → World → List ℕ → Option Undone → World → Type 0
EntersOrPasses None old line stop new = EntersLine old (line_at old.journal line) stop new
EntersOrPasses (Some why) old line stop new = (stop ≡ Some why) × (new ≡ old)

-- a loader goes on by the line, and nothing is written
abbrev pub GoesOn : LoaderState → List ℕ → List ℕ → LoaderState → Type 0
GoesOn old line text new =
    (text ≡ []) × EntersOrPasses old.stop old.world line new.stop new.world

abbrev pub has_stopped : LoaderState → Bool
has_stopped p = is_some p.stop

-- what is told of a fault that ended the reading; nothing is written that could fail
abbrev pub IsToldOf : SessionFault → LoadFault → Type 0
IsToldOf sessions.Read fault = fault ≡ faults.Read
IsToldOf sessions.Bound fault = fault ≡ faults.Bound
IsToldOf sessions.NoMemory fault = fault ≡ faults.NoMemory
IsToldOf sessions.Write fault = ⊥

-- what a loader has come to: the core, beside the front of a line that was cut off; or the line at which
-- it stopped
abbrev pub loaded_of : World → Option Undone → Option (Vec ℕ Global) → Result Loaded LoadFault
loaded_of w None cut = Ok (record { system = w; cut = cut })
loaded_of w (Some why) cut = Err (faults.Line (length w.journal + 1) why)

-- ---- lines that are too long are answered alike
pub unmarked-too_long : (line : List ℕ) → LONGEST_LINE < length line → unmarked line ≡ line
unmarked-too_long line h = grind (arith, nat_tests)

line_at-too_long : (journal : List Entry) (line : List ℕ)
    → LONGEST_LINE < length line
    → line_at journal line ≡ line
line_at-too_long [] line h = unmarked-too_long line h
line_at-too_long (e ∷ es) line h = refl

pub says-too_long : (most : ℕ) (line : List ℕ) (e : Entry)
    → most < length line → SaysEntry most line e → ⊥
says-too_long most line e h s = asks-too_long most line h e.user e.statement s.asks

pub undone-too_long : (most : ℕ) (w : World) (line other : List ℕ) (why : Undone)
    → most < length line
    → most < length other
    → IsUndone most w line why
    → IsUndone most w other why
undone-too_long most w line other (reasons.Fault code offset) h k p =
    fault-too_long most line other code offset h k p
undone-too_long most w line other reasons.Unread h k p = absurd (addressed-too_long most line h p)
undone-too_long most w line other reasons.NoChange h k p =
    absurd (says-too_long most line p.0 h p.1)
undone-too_long most w line other (reasons.Answer reply) h k p =
    absurd (says-too_long most line p.0 h p.1)

EntersLine-too_long : (old : World) (line other : List ℕ) (stop : Option Undone) (new : World)
    → LONGEST_LINE < length line
    → LONGEST_LINE < length other
    → EntersLine old line stop new
    → EntersLine old other stop new
EntersLine-too_long old line other None new h k p =
    absurd (says-too_long LONGEST_LINE line p.0 h p.1.says)
EntersLine-too_long old line other (Some why) new h k p =
    (undone-too_long LONGEST_LINE old line other why h k p.0, p.1)

EntersOrPasses-too_long : (stop : Option Undone) (old : World) (line other : List ℕ)
    (stop' : Option Undone) (new : World)
    → LONGEST_LINE < length line
    → LONGEST_LINE < length other
    → EntersOrPasses stop old line stop' new
    → EntersOrPasses stop old other stop' new
EntersOrPasses-too_long None old line other stop new h k p =
    let read = λ (l : List ℕ). EntersLine old l stop new in
    subst read (sym (line_at-too_long old.journal other k))
    (EntersLine-too_long old line other stop new h k
    (subst read (line_at-too_long old.journal line h) p))
EntersOrPasses-too_long (Some why) old line other stop new h k p = p

pub GoesOn-too_long : (old new : LoaderState) (line other text : List ℕ)
    → LONGEST_LINE < length line
    → LONGEST_LINE < length other
    → GoesOn old line text new
    → GoesOn old other text new
GoesOn-too_long old new line other text h k p =
    (p.0, EntersOrPasses-too_long old.stop old.world line other new.stop new.world h k p.1)

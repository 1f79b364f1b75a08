-- A replayer: how it goes on by a line.
use Rattle.std.specs.Prelude.{◌≡◌, ◌⊎◌, ℕ, ◌+◌, ◌<◌, ◌^◌, ◌==◌, Bool, true, false, if◌then◌else◌, List, [], ◌∷◌, ◌++◌, length, Option, Some, None, Result, Ok, Err, refl}
use Rattle.std.specs.Option.{is_some}
use Rattle.std.proofs.Common.{arith, sym, subst, Vec, Global}
use Rattle.lines_core.specs.Serving.{Ends, traffic_of}
use Rattle.lines_core.specs.declared.line.TheConstants.{LONGEST_LINE}
use Rattle.lines_core.specs.declared.serving.SessionFault.{SessionFault}
use Rattle.lines_core.specs.declared.serving.SessionFault.TheVariants as sessions
use Rattle.system_core.specs.World.{World, with_entry}
use Rattle.system_core.specs.declared.machine.event.Entry.{Entry}
use Rattle.load_core.specs.declared.fault.Undone.{Undone}
use Rattle.load_core.specs.declared.fault.Undone.TheVariants as reasons
use Rattle.load_core.specs.declared.manner.Form.{Form}
use Rattle.load_core.specs.declared.manner.Form.TheVariants as forms
use Rattle.load_core.specs.declared.manner.CutLine.{CutLine}
use Rattle.load_core.specs.declared.manner.CutLine.TheVariants as cut_lines
use Rattle.load_core.specs.declared.manner.Manner.{Manner}
use Rattle.load_core.specs.declared.replayed.LeftOut.{LeftOut}
use Rattle.load_core.specs.declared.replayed.ReplayFault.{ReplayFault}
use Rattle.load_core.specs.declared.replayed.ReplayFault.TheVariants as faults
use Rattle.load_core.specs.Loading.{unmarked, IsUndone}
use Rattle.load_core.specs.Loader.{says-too_long, undone-too_long, unmarked-too_long}
use Rattle.load_core.specs.Whole.{ReadsWhole}
use Rattle.load_core.specs.Replaying.{longest, ends_reading, says_no_change, EntersChange, LeavesOut, PassesOver, no_change, behind, StopsReading, DroppedLine, ReplayedState}

-- what a replayer has come to: the world, the numbers of the lines that made a change, how many lines
-- were left out, and the first of them; how many lines came, and the reason at which it stopped
pub record ReplayerState : Type 0 where
  pub manner : Manner
  pub world : World
  pub numbers : List ℕ
  pub left_out : ℕ
  pub first_left_out : Option LeftOut
  pub count : ℕ
  pub stop : Option Undone

-- no line came yet
abbrev pub new_replayer : Manner → World → ReplayerState
new_replayer manner w = record {
  manner = manner;
  world = w;
  numbers = [];
  left_out = 0;
  first_left_out = None;
  count = 0;
  stop = None;
}

-- the line as it is read behind so many: the first without its byte order mark
abbrev pub line_behind : ℕ → List ℕ → List ℕ
line_behind count line = if count == 0 then unmarked line else line

-- the first that was left out, where this one is too
abbrev pub first_or : Option LeftOut → LeftOut → Option LeftOut
first_or None line = Some line
first_or (Some first) line = Some first

-- one line more came
abbrev pub passing : ReplayerState → ReplayerState
passing p = record p { count = p.count + 1 }

-- and its change was entered
abbrev pub entering : ReplayerState → Entry → ReplayerState
entering p e = record p {
  world = with_entry p.world e;
  numbers = p.numbers ++ (p.count + 1) ∷ [];
  count = p.count + 1;
}

-- the line that came last was left out
abbrev pub left_out_last : ReplayerState → Undone → ReplayerState
left_out_last p why = record p {
  left_out = p.left_out + 1;
  first_left_out = first_or p.first_left_out (record { number = p.count; why = why });
}

abbrev pub leaving : ReplayerState → Undone → ReplayerState
leaving p why = left_out_last (passing p) why

-- what becomes of it where the line that came last says no change that is done, for this reason
abbrev pub noted_by : Bool → Bool → ReplayerState → Undone → ReplayerState
noted_by true none p why = record p { stop = Some why }
noted_by false true p why = p
noted_by false false p why = left_out_last p why

abbrev pub undone_noted : ReplayerState → Undone → ReplayerState
undone_noted p why = noted_by (ends_reading p.manner.form why) (says_no_change why) p why

-- the line that came last made a change: its number is noted, or there is no memory for that
abbrev pub NotesEntered : ReplayerState → ReplayerState → Type 0
NotesEntered old new =
    (new ≡ record old { numbers = old.numbers ++ old.count ∷ [] })
    ⊎ ((new.stop ≡ Some reasons.Unread) × (new.count ≡ old.count))

-- how it goes on by a line
pub data TakesLine (old : ReplayerState) (line : List ℕ) (new : ReplayerState) : Type 0 where
  enters : (e : Entry) → EntersChange old.manner old.world line e → new ≡ entering old e
      → TakesLine old line new
  leaves_out : (why : Undone) → LeavesOut old.manner old.world line why → new ≡ leaving old why
      → TakesLine old line new
  passes_over : PassesOver old.manner old.world line → new ≡ passing old → TakesLine old line new
  stops : (why : Undone) → StopsReading old.manner old.world line why → new.stop ≡ Some why
      → new.count ≡ old.count + 1
      → TakesLine old line new

-- unless it has stopped
abbrev pub TakesUnless : Option Undone → ReplayerState → List ℕ → ReplayerState → Type 0
TakesUnless (Some why) old line new = new ≡ old
TakesUnless None old line new = TakesLine old (line_behind old.count line) new

-- a replayer goes on by the line, and nothing is written, as long as lines can be counted
abbrev pub ReplaysLine : ReplayerState → List ℕ → List ℕ → ReplayerState → Type 0
ReplaysLine old line text new =
    (text ≡ []) × (old.count + 1 < 2 ^ 64 → TakesUnless old.stop old line new)

abbrev pub has_ended : ReplayerState → Bool
has_ended p = is_some p.stop

-- how the reading of lines ends: of a journal with the front of a last line that was cut off, if it was
abbrev pub ReadsLines : Form → Result (Option (Vec ℕ Global)) SessionFault
    → ReplayerState → ReplayerState
    → Option (List ℕ) → Option (List ℕ) → Type 0
ReadsLines forms.Journal result old new left left' =
    ReadsWhole ReplaysLine has_ended result old new left left'
ReadsLines forms.Script (Ok None) old new left left' =
    Ends ReplaysLine has_ended (Ok tt) old new (traffic_of left left' None None)
ReadsLines forms.Script (Ok (Some front)) old new left left' = ⊥
ReadsLines forms.Script (Err fault) old new left left' =
    Ends ReplaysLine has_ended (Err fault) old new (traffic_of left left' None None)

-- the fault of a reader; nothing is written that could fail
abbrev pub IsReadingFault : SessionFault → ReplayFault → Type 0
IsReadingFault sessions.Read fault = fault ≡ faults.Read
IsReadingFault sessions.Bound fault = fault ≡ faults.Bound
IsReadingFault sessions.NoMemory fault = fault ≡ faults.NoMemory
IsReadingFault sessions.Write fault = ⊥

-- what is dropped at the end of the reading, or the fault that it ends with
abbrev pub dropped_at : ℕ → Option Undone → CutLine → Option (Vec ℕ Global)
    → Result (Option DroppedLine) ReplayFault
dropped_at count (Some why) cut_line front = Err (faults.Line count why)
dropped_at count None cut_line None = Ok None
dropped_at count None cut_lines.Refuse (Some front) = Err (faults.CutOff (count + 1) front)
dropped_at count None cut_lines.Drop (Some front) =
    Ok (Some (record { number = count + 1; front = front.items }))

-- what the replayer leaves then
abbrev pub leavings_of : ReplayerState → Result (Option DroppedLine) ReplayFault
    → Result ReplayedState ReplayFault
leavings_of p (Err fault) = Err fault
leavings_of p (Ok dropped) =
    Ok (record {
      world = p.world;
      numbers = p.numbers;
      left_out = p.left_out;
      first_left_out = p.first_left_out;
      dropped = dropped;
    })

-- ---- lines that are too long are answered alike
behind-too_long : (count : ℕ) (line : List ℕ)
    → LONGEST_LINE < length line
    → line_behind count line ≡ line
behind-too_long count line h = either (count == 0)
  where
    either : (b : Bool) → (if b then unmarked line else line) ≡ line
    either true = unmarked-too_long line h
    either false = refl

longer : (form : Form) (n : ℕ) → LONGEST_LINE < n → longest form < n
longer forms.Journal n h = h
longer forms.Script n h = omega (arith, h)

also : (old : ReplayerState) (line other : List ℕ) (why : Undone)
    → LONGEST_LINE < length line
    → LONGEST_LINE < length other
    → IsUndone (longest old.manner.form) old.world line why
    → IsUndone (longest old.manner.form) old.world other why
also old line other why h k p =
    undone-too_long (longest old.manner.form) old.world line other why
    (longer old.manner.form (length line) h) (longer old.manner.form (length other) k) p

takes-too_long : (old : ReplayerState) (line other : List ℕ) (new : ReplayerState)
    → LONGEST_LINE < length line
    → LONGEST_LINE < length other
    → TakesLine old line new
    → TakesLine old other new
takes-too_long old line other new h k (enters e t is) =
    absurd (says-too_long (longest old.manner.form) line e (longer old.manner.form (length line) h) t.says.says)
takes-too_long old line other new h k (leaves_out why t is) =
    leaves_out why (record { few = t.few; undone = also old line other why h k t.undone; left_out = t.left_out }) is
takes-too_long old line other new h k (passes_over (no_change t) is) =
    passes_over (no_change (also old line other reasons.NoChange h k t)) is
takes-too_long old line other new h k (passes_over (behind t) is) = passes_over (behind t) is
takes-too_long old line other new h k (stops why t is count) =
    stops why (record { few = t.few; undone = also old line other why h k t.undone; ends = t.ends }) is count

unless-too_long :
    (stop : Option Undone) (old : ReplayerState) (line other : List ℕ) (new : ReplayerState)
    → LONGEST_LINE < length line
    → LONGEST_LINE < length other
    → TakesUnless stop old line new
    → TakesUnless stop old other new
unless-too_long (Some why) old line other new h k p = p
unless-too_long None old line other new h k p =
    let To : List ℕ → Type 0 = λ l. TakesLine old l new in
    subst To (sym (behind-too_long old.count other k))
    (takes-too_long old line other new h k (subst To (behind-too_long old.count line h) p))

pub ReplaysLine-too_long : (old new : ReplayerState) (line other text : List ℕ)
    → LONGEST_LINE < length line
    → LONGEST_LINE < length other
    → ReplaysLine old line text new
    → ReplaysLine old other text new
ReplaysLine-too_long old new line other text h k p =
    (p.0, λ few. unless-too_long old.stop old line other new h k (p.1 few))

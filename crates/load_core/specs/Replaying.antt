-- What the lines of a journal or of a script leave: each change that is allowed at the journal before
-- it is entered, and the other lines are left out, which is told of each that has a fault, or says a
-- change that is denied or refused.
use Rattle.std.specs.Prelude.{◌≡◌, ◌⊎◌, ◌+◌, ◌^◌, ◌<◌, ◌≤◌, ℕ, Bool, true, false, not, ◌&&◌, ◌||◌, nat_le, List, [], ◌∷◌, ◌++◌, length, take, Option, Some, None, Result, Ok, Err}
use Rattle.std.specs.Str.Lines.{lines}
use Rattle.std.specs.Io.KnownBytes.{Consumes, Keeps, IsAtEnd}
use Rattle.lexer_core.specs.declared.fault.Code.TheVariants as codes_of
use Rattle.lexer_core.specs.declared.lexer.TheConstants.{MAX_LINE}
use Rattle.lines_core.specs.Lines.{whole_lines, IsWhole, IsCutOff}
use Rattle.lines_core.specs.declared.line.TheConstants.{KEPT_BYTES, LONGEST_LINE}
use Rattle.system_core.specs.World.{World, with_entry}
use Rattle.system_core.specs.Replies.{is_refused_memory}
use Rattle.system_core.specs.declared.machine.event.Entry.{Entry}
use Rattle.load_core.specs.declared.fault.Undone.{Undone}
use Rattle.load_core.specs.declared.fault.Undone.TheVariants as reasons
use Rattle.load_core.specs.declared.manner.Form.{Form}
use Rattle.load_core.specs.declared.manner.Form.TheVariants as forms
use Rattle.load_core.specs.declared.manner.CutLine.TheVariants as cut_lines
use Rattle.load_core.specs.declared.manner.Manner.{Manner}
use Rattle.load_core.specs.declared.replayed.LeftOut.{LeftOut}
use Rattle.load_core.specs.declared.replayed.ReplayFault.{ReplayFault}
use Rattle.load_core.specs.declared.replayed.ReplayFault.TheVariants as faults
use Rattle.load_core.specs.Loading.{SaysChange, IsUndone, lines_unmarked}

-- ---- forms
-- how many bytes a line may have
abbrev pub longest : Form → ℕ
longest forms.Journal = LONGEST_LINE
longest forms.Script = MAX_LINE

-- the lines that are read: a journal's last line that has no line feed is none of them
abbrev pub lines_read : Form → List ℕ → List (List ℕ)
lines_read forms.Journal bytes = whole_lines bytes
lines_read forms.Script bytes = lines bytes

-- ---- lines that end the reading
-- whether a line came to nothing since memory ran out
abbrev pub is_out_of_memory : Undone → Bool
is_out_of_memory (reasons.Fault code offset) = false
is_out_of_memory reasons.Unread = true
is_out_of_memory reasons.NoChange = false
is_out_of_memory (reasons.Answer reply) = is_refused_memory reply

-- whether it is the fault of a line that is too long; a text that is too long has this fault at its
-- quote, before byte 4,096
abbrev pub is_too_long : Undone → Bool
is_too_long (reasons.Fault codes_of.TooLong offset) = nat_le MAX_LINE offset
is_too_long why = false

-- whether the reading ends at a line that came to nothing so: for want of memory, and in a journal at
-- one that is too long
abbrev pub ends_reading : Form → Undone → Bool
ends_reading forms.Journal why = is_out_of_memory why || is_too_long why
ends_reading forms.Script why = is_out_of_memory why

-- ---- lines that are left out
-- whether a line says a statement that is no change
abbrev pub says_no_change : Undone → Bool
says_no_change reasons.NoChange = true
says_no_change why = false

-- whether it is told of a line that it was left out: it has a fault, or says a change that is denied
-- or refused
abbrev pub is_left_out : Form → Undone → Bool
is_left_out form why = not (ends_reading form why) && not (says_no_change why)

-- ---- a line at a world
-- it says a change that is allowed at the journal, which has fewer than so many
pub record EntersChange (manner : Manner) (w : World) (line : List ℕ) (e : Entry) : Type 0 where
  pub few : length w.journal < manner.most
  pub says : SaysChange (longest manner.form) w.limits w.journal line e

-- it is left out, for this reason
pub record LeavesOut (manner : Manner) (w : World) (line : List ℕ) (why : Undone) : Type 0 where
  pub few : length w.journal < manner.most
  pub undone : IsUndone (longest manner.form) w line why
  pub left_out : is_left_out manner.form why ≡ true

-- it is passed over, of which nothing is told: it says a statement that is no change, or stands
-- behind the last change that is wanted
pub data PassesOver (manner : Manner) (w : World) (line : List ℕ) : Type 0 where
  no_change : IsUndone (longest manner.form) w line reasons.NoChange → PassesOver manner w line
  behind : manner.most ≤ length w.journal → PassesOver manner w line

-- it ends the reading, for this reason
pub record StopsReading (manner : Manner) (w : World) (line : List ℕ) (why : Undone) : Type 0 where
  pub few : length w.journal < manner.most
  pub undone : IsUndone (longest manner.form) w line why
  pub ends : ends_reading manner.form why ≡ true

-- ---- lines
-- From one world the lines, of which the first has this number, lead to another. The numbers are
-- those of the lines that made a change; the list has the lines that were left out, each with its
-- number and why.
pub data Replays (manner : Manner)
    : World → ℕ → List (List ℕ) → World → List ℕ → List LeftOut → Type 0 where
  nothing : {w : World} {n : ℕ} → Replays manner w n [] w [] []
  enters : {w new : World} {n : ℕ} {line : List ℕ} {lines : List (List ℕ)} {numbers : List ℕ}
      {out : List LeftOut} (e : Entry)
      → EntersChange manner w line e
      → Replays manner (with_entry w e) (n + 1) lines new numbers out
      → Replays manner w n (line ∷ lines) new (n ∷ numbers) out
  leaves_out : {w new : World} {n : ℕ} {line : List ℕ} {lines : List (List ℕ)} {numbers : List ℕ}
      {out : List LeftOut} (why : Undone)
      → LeavesOut manner w line why
      → Replays manner w (n + 1) lines new numbers out
      → Replays manner w n (line ∷ lines) new numbers (record { number = n; why = why } ∷ out)
  passes_over : {w new : World} {n : ℕ} {line : List ℕ} {lines : List (List ℕ)} {numbers : List ℕ}
      {out : List LeftOut}
      → PassesOver manner w line
      → Replays manner w (n + 1) lines new numbers out
      → Replays manner w n (line ∷ lines) new numbers out

abbrev pub first_of : List LeftOut → Option LeftOut
first_of [] = None
first_of (line ∷ lines) = Some line

-- ---- a last line that has no line feed
-- its number and its front
pub record DroppedLine : Type 0 where
  pub number : ℕ
  pub front : List ℕ

-- the last line of the bytes was cut off: it has this number, from 1, and this is its front, as far as
-- it is kept
pub record IsCutAt (bytes : List ℕ) (number : ℕ) (front : List ℕ) : Type 0 where
  pub cut_off : IsCutOff bytes
  pub number_is : number ≡ length (whole_lines bytes) + 1
  pub front_is : front ≡ take KEPT_BYTES cut_off.last

-- the cut line that is dropped: none of a script, nor where each line has its line feed
abbrev pub Drops : Manner → List ℕ → Option DroppedLine → Type 0
Drops manner bytes None = (manner.form ≡ forms.Script) ⊎ IsWhole bytes
Drops manner bytes (Some cut) =
    (manner.form ≡ forms.Journal)
    × (manner.cut_line ≡ cut_lines.Drop)
    × IsCutAt bytes cut.number cut.front

-- ---- an input
-- what a replay leaves
pub record ReplayedState : Type 0 where
  pub world : World
  pub numbers : List ℕ
  pub left_out : ℕ
  pub first_left_out : Option LeftOut
  pub dropped : Option DroppedLine

-- The lines before the one of this number, from 1, were replayed, and that one ends the reading.
pub record StopsReplay (manner : Manner) (begins : World) (lines : List (List ℕ))
    (number : ℕ) (why : Undone) : Type 0 where
  pub front : List (List ℕ)
  pub line : List ℕ
  pub rest : List (List ℕ)
  pub world : World
  pub numbers : List ℕ
  pub out : List LeftOut
  pub lines_are : lines ≡ front ++ line ∷ rest
  pub number_is : number ≡ length front + 1
  pub replays : Replays manner begins 1 front world numbers out
  pub ends : StopsReading manner world line why

-- How the replay of what a reader has left ends, from a world on. Ok: all of it was read, and its
-- lines lead to the world; so many of them were left out, and this is the first.
abbrev pub EndsReplay : Manner → World → Result ReplayedState ReplayFault
    → Option (List ℕ) → Option (List ℕ) → Type 0
EndsReplay manner begins (Ok r) left left' =
    (bytes : List ℕ) × (out : List LeftOut)
    × Consumes left left' bytes
    × IsAtEnd left'
    × Replays manner begins 1 (lines_unmarked (lines_read manner.form bytes)) r.world r.numbers out
    × (r.left_out ≡ length out)
    × (r.first_left_out ≡ first_of out)
    × Drops manner bytes r.dropped
    × (r.world ≡ record begins { journal = r.world.journal })
EndsReplay manner begins (Err (faults.Line number why)) left left' =
    (bytes : List ℕ)
    × Consumes left left' bytes
    × StopsReplay manner begins (lines_unmarked (lines_read manner.form bytes)) number why
EndsReplay manner begins (Err (faults.CutOff number front)) left left' =
    (bytes : List ℕ)
    × Consumes left left' bytes
    × IsAtEnd left'
    × (manner.form ≡ forms.Journal)
    × (manner.cut_line ≡ cut_lines.Refuse)
    × IsCutAt bytes number front.items
EndsReplay manner begins (Err faults.Read) left left' = (bytes : List ℕ) × Consumes left left' bytes
EndsReplay manner begins (Err faults.Bound) left left' =
    (bytes : List ℕ) × Consumes left left' bytes × (length bytes ≡ 2 ^ 32)
EndsReplay manner begins (Err faults.NoMemory) left left' = Keeps left left'

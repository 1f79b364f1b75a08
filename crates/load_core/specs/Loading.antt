-- What the lines of a file load: a journal, of which each line says a change that is allowed at the
-- journal before it.
use Rattle.std.specs.Prelude.{◌≡◌, ◌+◌, ◌^◌, ℕ, true, false, ◌&&◌, nat_le, nat_eq, List, [], ◌∷◌, ◌++◌, length, take, drop, if◌then◌else◌, Option, None, Some, Result, Ok, Err}
use Rattle.std.proofs.Common.{Vec, Global}
use Rattle.std.specs.List.{starts_with}
use Rattle.std.specs.Str.Lines.{lines}
use Rattle.std.specs.Io.KnownBytes.{Consumes, Keeps, IsAtEnd}
use Rattle.base_core.specs.declared.limits.Limits.{Limits}
use Rattle.monitor_core.specs.Verdict.{is_change}
use Rattle.lines_core.specs.Lines.{whole_lines, IsWhole, IsCutOff}
use Rattle.lines_core.specs.declared.line.TheConstants.{KEPT_BYTES, LONGEST_LINE}
use Rattle.system_core.specs.Journal.{verdict_at}
use Rattle.system_core.specs.World.{World, opening}
use Rattle.system_core.specs.Replies.{is_done}
use Rattle.system_core.specs.Step.{Step}
use Rattle.system_core.specs.declared.machine.event.Entry.{Entry}
use Rattle.system_core.specs.declared.machine.event.Event.TheVariants as events
use Rattle.script_core.specs.Addressed.{Asks, IsFaulty, IsAddressed}
use Rattle.load_core.specs.declared.fault.Undone.{Undone}
use Rattle.load_core.specs.declared.fault.Undone.TheVariants as reasons
use Rattle.load_core.specs.declared.loading.Loaded.{Loaded}
use Rattle.load_core.specs.declared.fault.LoadFault.{LoadFault}
use Rattle.load_core.specs.declared.fault.LoadFault.TheVariants as faults

-- ---- a line, which may have so many bytes
-- the line says that the user of the entry asks its statement
pub record SaysEntry (most : ℕ) (line : List ℕ) (e : Entry) : Type 0 where
  pub asks : Asks most line e.user e.statement
  pub pass : e.pass ≡ 0

-- and that is a change which is allowed at the journal
pub record SaysChange (most : ℕ) (limits : Limits) (journal : List Entry) (line : List ℕ)
    (e : Entry) : Type 0 where
  pub says : SaysEntry most line e
  pub change : is_change e.statement ≡ true
  pub allowed : verdict_at limits journal e.user e.statement ≡ Ok tt

-- one after another, the lines of a journal say the changes that lead from one journal to another
abbrev pub Loads : Limits → List Entry → List (List ℕ) → List Entry → Type 0
Loads limits before [] after = after ≡ before
Loads limits before (line ∷ lines) after =
    (e : Entry)
    × SaysChange LONGEST_LINE limits before line e
    × Loads limits (before ++ e ∷ []) lines after

-- ---- a line that is no change that is done
-- why what the entry says is no change that is done at the world: it is no change, or it is answered
-- by this reply
abbrev pub IsUndoneEntry : World → Entry → Undone → Type 0
IsUndoneEntry w e reasons.NoChange = is_change e.statement ≡ false
IsUndoneEntry w e (reasons.Answer reply) =
    (is_change e.statement ≡ true)
    × Step w (events.Say 0 e.user e.statement) reply w
    × (is_done reply ≡ false)
IsUndoneEntry w e (reasons.Fault code offset) = ⊥
IsUndoneEntry w e reasons.Unread = ⊥

-- why the line says no change that is done at the world: its fault; that memory ran out while it was
-- read, where it says who speaks; or why what it says is none
abbrev pub IsUndone : ℕ → World → List ℕ → Undone → Type 0
IsUndone most w line (reasons.Fault code offset) = IsFaulty most line code offset
IsUndone most w line reasons.Unread = IsAddressed most line
IsUndone most w line reasons.NoChange =
    (e : Entry) × SaysEntry most line e × IsUndoneEntry w e reasons.NoChange
IsUndone most w line (reasons.Answer reply) =
    (e : Entry) × SaysEntry most line e × IsUndoneEntry w e (reasons.Answer reply)

-- ---- a file
-- the byte order mark: U+FEFF in UTF-8
abbrev pub byte_order_mark : List ℕ
byte_order_mark = 0xEF ∷ 0xBB ∷ 0xBF ∷ []

-- the line without the mark at its front, if it has one; a line that is too long keeps it
abbrev pub unmarked : List ℕ → List ℕ
unmarked line =
    if nat_le (length line) LONGEST_LINE && starts_with nat_eq line byte_order_mark
    then drop 3 line else line

-- the lines of a file, the first without the mark
abbrev pub lines_unmarked : List (List ℕ) → List (List ℕ)
lines_unmarked [] = []
lines_unmarked (line ∷ lines) = unmarked line ∷ lines

-- the world that has nothing but this journal
abbrev pub world_with : ℕ → Limits → List Entry → World
world_with chunk limits journal = record (opening chunk limits) { journal = journal }

-- The lines before the one of this number, from 1, load the journal, and that line says no change
-- that is done at it.
pub record StopsAt (chunk : ℕ) (limits : Limits) (lines : List (List ℕ)) (number : ℕ) (why : Undone)
    : Type 0 where
  pub front : List (List ℕ)
  pub line : List ℕ
  pub rest : List (List ℕ)
  pub journal : List Entry
  pub lines_are : lines ≡ front ++ line ∷ rest
  pub number_is : number ≡ length front + 1
  pub loads : Loads limits [] front journal
  pub undone : IsUndone LONGEST_LINE (world_with chunk limits journal) line why

-- The last line, of this number from 1, has no line feed, and the lines before it load a journal.
pub record CutsOff (limits : Limits) (bytes : List ℕ) (number : ℕ) : Type 0 where
  pub journal : List Entry
  pub cut_off : IsCutOff bytes
  pub number_is : number ≡ length (whole_lines bytes) + 1
  pub loads : Loads limits [] (lines_unmarked (whole_lines bytes)) journal

-- what stands behind the lines whose line feed has come: nothing, or a line that was cut off, of which
-- the front is kept
abbrev pub IsCutOf : List ℕ → Option (Vec ℕ Global) → Type 0
IsCutOf bytes None = IsWhole bytes × (lines bytes ≡ whole_lines bytes)
IsCutOf bytes (Some front) = (cut : IsCutOff bytes) × (front.items ≡ take KEPT_BYTES cut.last)

-- How the loading of the whole lines ends that a reader has left, of a core with these limits. Ok: all
-- of it was read, and its whole lines load the journal of the world, which has nothing else; a last line
-- that has no line feed is kept apart, whatever it says, as it may be the front of another.
abbrev pub EndsLoadWhole : ℕ → Limits → Result Loaded LoadFault → (left left' : Option (List ℕ))
    → Type 0
EndsLoadWhole chunk limits (Ok loaded) left left' =
    (bytes : List ℕ)
    × Consumes left left' bytes
    × IsAtEnd left'
    × IsCutOf bytes loaded.cut
    × Loads limits [] (lines_unmarked (whole_lines bytes)) loaded.system.journal
    × (loaded.system ≡ world_with chunk limits loaded.system.journal)
EndsLoadWhole chunk limits (Err (faults.Line number why)) left left' =
    (bytes : List ℕ)
    × Consumes left left' bytes
    × StopsAt chunk limits (lines_unmarked (whole_lines bytes)) number why
EndsLoadWhole chunk limits (Err (faults.CutOff number)) left left' = ⊥
EndsLoadWhole chunk limits (Err faults.Read) left left' =
    (bytes : List ℕ) × Consumes left left' bytes
EndsLoadWhole chunk limits (Err faults.Bound) left left' =
    (bytes : List ℕ) × Consumes left left' bytes × (length bytes ≡ 2 ^ 32)
EndsLoadWhole chunk limits (Err faults.NoMemory) left left' = Keeps left left'

-- How the loading of what a reader has left ends, of a core with these limits. Ok: all of it was read, it is empty or ends with a
-- line feed, and its lines load the journal of the world, which has nothing else. A last line that has
-- no line feed is refused, whatever it says: it may be the front of another.
abbrev pub EndsLoad : ℕ → Limits → Result World LoadFault → (left left' : Option (List ℕ)) → Type 0
EndsLoad chunk limits (Ok new) left left' =
    (bytes : List ℕ)
    × Consumes left left' bytes
    × IsAtEnd left'
    × IsWhole bytes
    × Loads limits [] (lines_unmarked (lines bytes)) new.journal
    × (new ≡ world_with chunk limits new.journal)
EndsLoad chunk limits (Err (faults.Line number why)) left left' =
    (bytes : List ℕ)
    × Consumes left left' bytes
    × StopsAt chunk limits (lines_unmarked (whole_lines bytes)) number why
EndsLoad chunk limits (Err (faults.CutOff number)) left left' =
    (bytes : List ℕ)
    × Consumes left left' bytes
    × IsAtEnd left'
    × CutsOff limits bytes number
EndsLoad chunk limits (Err faults.Read) left left' = (bytes : List ℕ) × Consumes left left' bytes
EndsLoad chunk limits (Err faults.Bound) left left' =
    (bytes : List ℕ) × Consumes left left' bytes × (length bytes ≡ 2 ^ 32)
EndsLoad chunk limits (Err faults.NoMemory) left left' = Keeps left left'

-- ---- a journal that was written
-- the entry as a line says it, which names no pass
abbrev pub without_pass : Entry → Entry
without_pass e = record e { pass = 0 }

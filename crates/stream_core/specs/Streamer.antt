-- A streamer: what it has come to, and how it goes on by a line.
use Rattle.std.specs.Prelude.{◌≡◌, ◌+◌, ◌-◌, ◌<◌, ℕ, Bool, true, false, List, [], ◌∷◌, ◌++◌, length, map, take, Option, Some, None, Ok}
use Rattle.std.specs.Option.{is_some, option_map}
use Rattle.std.proofs.Common.{Vec, Global, subst, sym, refl}
use Rattle.lines_core.specs.declared.line.TheConstants.{LONGEST_LINE}
use Rattle.links_core.specs.declared.standing.Standing.{Standing}
use Rattle.graph_core.specs.Indices.{standing_of}
use Rattle.monitor_core.specs.Verdict.{is_change}
use Rattle.system_core.specs.Journal.{rights_at, verdict_at}
use Rattle.system_core.specs.World.{World, with_entry}
use Rattle.system_core.specs.declared.machine.event.Entry.{Entry}
use Rattle.load_core.specs.declared.fault.Undone.{Undone}
use Rattle.load_core.specs.declared.fault.Undone.TheVariants as reasons
use Rattle.load_core.specs.Loading.{IsUndone, IsUndoneEntry, SaysChange}
use Rattle.load_core.specs.Loader.{line_at, says-too_long, undone-too_long, unmarked-too_long}
use Rattle.stream_core.specs.declared.effect.Effect.{Effect}
use Rattle.stream_core.specs.Effects.{AreEffectsOf}
use Rattle.stream_core.specs.Losses.{AreLossesOf}
use Rattle.stream_core.specs.Streams.{contents_at, stream_text}

-- the world whose changes were told, why it stopped, if it did, and up to which moment nothing is told
pub record StreamerState : Type 0 where
  pub world : World
  pub stop : Option Undone
  pub from : ℕ

-- a world whose last change, if it is not told, does not count
abbrev pub told_world : Bool → World → World
told_world false w = w
told_world true w = record w { journal = take (length w.journal - 1) w.journal }

-- what is kept of the core: its changes are told, and these are the standings of the grants in force
pub record IsCurrent (untold : Bool) (standings : List Standing) (w : World) : Type 0 where
  pub told : untold ≡ false
  pub in_force : standings ≡ map standing_of (rights_at w.journal).in_force

-- the text tells what the entry does behind a journal, unless it is of a moment up to this one
pub record TellsEntry (from : ℕ) (journal : List Entry) (e : Entry) (text : List ℕ) : Type 0 where
  pub all : List Effect
  pub are : AreEffectsOf (contents_at journal) (contents_at (journal ++ e ∷ [])) all
  pub text_is : text ≡ stream_text from (record { moment = length journal + 1; all = all } ∷ [])

-- the text tells what the last entry of a journal took of grants in force before it, of which these are the
-- standings, unless it is of a moment up to this one
pub record TellsLosses (from : ℕ) (journal : List Entry) (before : List Standing) (text : List ℕ)
    : Type 0 where
  pub all : List Effect
  pub are : AreLossesOf before (map standing_of (rights_at journal).in_force) all
  pub text_is : text ≡ stream_text from (record { moment = length journal; all = all } ∷ [])

-- why an entry is not told: it is no change that is done, or memory ran out
abbrev pub IsUntold : World → Entry → Undone → Type 0
IsUntold w e reasons.NoChange = IsUndoneEntry w e reasons.NoChange
IsUntold w e (reasons.Answer reply) = IsUndoneEntry w e (reasons.Answer reply)
IsUntold w e reasons.Unread = Unit {0}
IsUntold w e (reasons.Fault code offset) = ⊥

-- what an entry comes to: it is entered, and this text tells what it did; or the streamer stops
abbrev pub EntersTelling : StreamerState → Entry → Option (Vec ℕ Global) → StreamerState → Type 0
EntersTelling old e (Some text) new =
    (is_change e.statement ≡ true)
    × (verdict_at old.world.limits old.world.journal e.user e.statement ≡ Ok tt)
    × (new ≡ record old { world = with_entry old.world e })
    × TellsEntry old.from old.world.journal e text.items
EntersTelling old e None new =
    (why : Undone) × IsUntold old.world e why × (new ≡ record old { stop = Some why })

-- what a line comes to at a streamer that has not stopped, by why it has then
abbrev pub TellsLine : StreamerState → List ℕ → List ℕ → Option Undone → StreamerState → Type 0
TellsLine old line text None new =
    (e : Entry)
    × SaysChange LONGEST_LINE old.world.limits old.world.journal line e
    × (new ≡ record old { world = with_entry old.world e })
    × TellsEntry old.from old.world.journal e text
TellsLine old line text (Some why) new =
    IsUndone LONGEST_LINE old.world line why
    × (new ≡ record old { stop = Some why })
    × (text ≡ [])

-- the same at any: once it has stopped, it passes over the line
abbrev pub TellsOrPasses : Option Undone → StreamerState → List ℕ → List ℕ → StreamerState → Type 0
TellsOrPasses None old line text new =
    TellsLine old (line_at old.world.journal line) text new.stop new
TellsOrPasses (Some why) old line text new = (text ≡ []) × (new ≡ old)

abbrev pub StreamsLine : StreamerState → List ℕ → List ℕ → StreamerState → Type 0
StreamsLine old line text new = TellsOrPasses old.stop old line text new

abbrev pub is_stopped : StreamerState → Bool
is_stopped s = is_some s.stop

-- the line at which it stopped: its number, from 1, and why
abbrev pub stopped_at : StreamerState → Option (ℕ × Undone)
stopped_at s = option_map (λ why. (length s.world.journal + 1, why)) s.stop

-- ---- lines that are too long are answered alike
line_at-of_long : (journal : List Entry) (line : List ℕ)
    → LONGEST_LINE < length line
    → line_at journal line ≡ line
line_at-of_long [] line h = unmarked-too_long line h
line_at-of_long (e ∷ es) line h = refl

TellsLine-too_long : (old : StreamerState) (line other text : List ℕ) (stop : Option Undone)
    (new : StreamerState)
    → LONGEST_LINE < length line
    → LONGEST_LINE < length other
    → TellsLine old line text stop new
    → TellsLine old other text stop new
TellsLine-too_long old line other text None new h k p =
    absurd (says-too_long LONGEST_LINE line p.0 h p.1.says)
TellsLine-too_long old line other text (Some why) new h k p =
    (undone-too_long LONGEST_LINE old.world line other why h k p.0, p.1, p.2)

TellsOrPasses-too_long : (stop : Option Undone) (old new : StreamerState)
    (line other text : List ℕ)
    → LONGEST_LINE < length line
    → LONGEST_LINE < length other
    → TellsOrPasses stop old line text new
    → TellsOrPasses stop old other text new
TellsOrPasses-too_long None old new line other text h k p =
    let tells = λ (l : List ℕ). TellsLine old l text new.stop new in
    subst tells (sym (line_at-of_long old.world.journal other k))
    (TellsLine-too_long old line other text new.stop new h k
    (subst tells (line_at-of_long old.world.journal line h) p))
TellsOrPasses-too_long (Some why) old new line other text h k p = p

pub StreamsLine-too_long : (old new : StreamerState) (line other text : List ℕ)
    → LONGEST_LINE < length line
    → LONGEST_LINE < length other
    → StreamsLine old line text new
    → StreamsLine old other text new
StreamsLine-too_long old new line other text h k p =
    TellsOrPasses-too_long old.stop old new line other text h k p

-- What lines or sessions leave, and where their changes are kept.
use Rattle.std.specs.Prelude.{◌≡◌, ℕ, Bool, true, false, List, map, Option, None, Some, Ok}
use Rattle.std.specs.Option.{is_some}
use Rattle.lines_core.specs.Serving.{Traffic}
use Rattle.system_core.specs.World.{World}
use Rattle.journal_core.specs.Keeping.{owing_nothing, line_rules, no_rules}
use Rattle.journal_core.specs.declared.keeper.NoKeeper.{NoKeeper}
use Rattle.script_core.specs.Keeping.{EndsKeptFrom}
use Rattle.folder_core.specs.declared.errand.Errand.{Errand}
use Rattle.desk_core.specs.Guarded.{origin_at}
use Rattle.desk_core.specs.Kept.{HasKept}
use Rattle.door_core.specs.Entrance.{Admittance}
use Rattle.server_core.specs.Sessions.{Leaves}
use Rattle.serving_core.specs.Protocols.{SpeaksServed}
use Rattle.sysr.specs.declared.command.command_line.JournalSync.{JournalSync}
use Rattle.sysr.specs.declared.command.command_line.JournalSync.TheVariants as asked
use Rattle.sysr.specs.declared.command.users.UserSocketWord.{UserSocketWord}
use Rattle.sysr.specs.declared.loading.Start.{Start}
use Rattle.sysr.specs.declared.keeping.Kept.{Kept}
use Rattle.sysr.specs.declared.keeping.Kept.TheVariants as places

-- whether clients are told of no change before it is on the disk
abbrev pub is_each : JournalSync → Bool
is_each asked.Each = true
is_each asked.Never = false
is_each asked.Second = false

-- what a server begins with whose changes are kept in its folder, by this sink
abbrev pub in_folder : {W : Type 0} → World → W → Start W
in_folder system sink = record { system = system; journal = Some sink; syncer = None }

-- whether the changes are kept as lines, in a journal
abbrev pub is_in_lines : {W : Type 0} → Kept W → Bool
is_in_lines (places.Nowhere left) = false
is_in_lines (places.Lines left) = true

-- the core that was left
abbrev pub system_of : {W : Type 0} → Kept W → World
system_of (places.Nowhere left) = left.system
system_of (places.Lines left) = left.system

-- the keeper that keeps nothing
abbrev pub nobody : NoKeeper
nobody = record {}

-- whether what is left of the last change is owed to the journal
abbrev pub owes_a_change : {W : Type 0} → Kept W → Bool
owes_a_change (places.Nowhere left) = false
owes_a_change (places.Lines left) = is_some left.keeper.owed

-- who comes in as whom, by the words of a command line: by a login where a file of users is named, and at
-- a socket of a user's own as that user
abbrev pub admittance_of : {A : Type 0} → Option A → List UserSocketWord → Admittance
admittance_of users words =
    record { login = is_some users; sockets = map (λ (w : UserSocketWord). w.user) words }

-- Of the sink of a journal, `taken` and `handed_on` are those of base_core's `Sink`, `may_run` and `knows`
-- those of journal_core's `Errands`.
module _ {W : Type 0} (taken handed_on : W → Option (List ℕ))
    (may_run : Option (List ℕ) → Errand → Type 0) (knows : Bool) where
  -- From this start lines were answered, to their end. Where there is a journal, each change was kept
  -- in it before its reply was written. Of the lines, `left` is what is to come; of what is written,
  -- `written` is what was given to the writer.
  abbrev pub IsAnswered : Start W → Traffic → Kept W → Type 0
  IsAnswered start traffic (places.Nowhere ended) =
      (start.journal ≡ None)
      × EndsKeptFrom no_rules
      start.system (Ok ended.system) nobody ended.keeper traffic
  IsAnswered start traffic (places.Lines ended) =
      (sink : W)
      × (start.journal ≡ Some sink)
      × EndsKeptFrom (line_rules may_run knows)
      start.system (Ok ended.system) (owing_nothing (taken sink) (handed_on sink)) ended.keeper traffic

  -- From this start so many workers served so many sessions, which came in so. The journal, if there is
  -- one, kept each change since then, from the state on in which it was handed in; or what is left of the
  -- last is owed.
  abbrev pub IsServed : Admittance → (workers sessions : ℕ) → Start W → Kept W → Type 0
  IsServed admittance workers sessions start (places.Nowhere ended) =
      (start.journal ≡ None)
      × Leaves SpeaksServed admittance workers sessions nobody start.system ended.system
  IsServed admittance workers sessions start (places.Lines ended) =
      (sink : W)
      × (start.journal ≡ Some sink)
      × Leaves SpeaksServed admittance workers sessions (owing_nothing (taken sink) (handed_on sink)) start.system
      ended.system
      × HasKept (line_rules may_run knows) (origin_at start.system (owing_nothing (taken sink) (handed_on sink)))
      ended.system.journal ended.keeper

  -- the same from some start, which has a journal exactly where one is named
  abbrev pub ServesFrom : {A : Type 0} → Admittance → (workers sessions : ℕ) → Option A → Kept W
      → Type 0
  ServesFrom admittance workers sessions named kept =
      (start : Start W)
      × (is_some start.journal ≡ is_some named)
      × IsServed admittance workers sessions start kept

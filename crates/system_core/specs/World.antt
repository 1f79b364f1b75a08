-- Worlds: what a system stands for.
use Rattle.std.specs.Prelude.{ℕ, ◌≡◌, ◌+◌, ◌<◌, ◌≤◌, List, [], ◌∷◌, ◌++◌, length, Option, Some, None}
use Rattle.std.specs.List.{AllByRecursion}
use Rattle.base_core.specs.declared.name.User.{User}
use Rattle.base_core.specs.declared.value.Moment.{Moment}
use Rattle.base_core.specs.declared.limits.Limits.{Limits}
use Rattle.reader_core.specs.declared.statement.Statement.{Statement}
use Rattle.capture_core.specs.Image.{records, row_total}
use Rattle.system_core.specs.declared.machine.event.Entry.{Entry}
use Rattle.system_core.specs.declared.machine.size.Size.{Size}
use Rattle.system_core.specs.Journal.{tables_at, rights_at, IsLawful}
use Rattle.system_core.specs.Exports.{journal_at}

-- the checkpoint that is being captured: its number, its point, and how many records are left
pub record ActiveCheckpoint : Type 0 where
  pub number : ℕ
  pub point : Moment
  pub left : ℕ

-- what a system stands for: its journal of accepted changes; how many checkpoints were begun, the number
-- and the point of each that is kept, the oldest first, and the active one; its chunk, and its limits
pub record World : Type 0 where
  pub journal : List Entry
  pub begun : ℕ
  pub finished : List (ℕ × Moment)
  pub active : Option ActiveCheckpoint
  pub chunk : ℕ
  pub limits : Limits

abbrev pub opening : ℕ → Limits → World
opening chunk limits =
    record { journal = []; begun = 0; finished = []; active = None; chunk = chunk; limits = limits }

abbrev pub entry : ℕ → User → Statement → Entry
entry pass user asked = record { pass = pass; user = user; statement = asked }

-- the moment of a world: the number of its accepted changes
abbrev pub moment_of : World → Moment
moment_of w = record { 0 = length w.journal }

-- the moment after it
abbrev pub next_moment : World → Moment
next_moment w = record { 0 = length w.journal + 1 }

abbrev pub with_entry : World → Entry → World
with_entry w e = record w { journal = w.journal ++ e ∷ [] }

-- how many tables and rows the journal makes, grants it leaves in force, and checkpoints are kept
abbrev pub size_of : World → Size
size_of w = record {
  tables = length (tables_at w.journal);
  rows = row_total (tables_at w.journal);
  grants = length (rights_at w.journal).in_force;
  checkpoints = length w.finished;
}

-- how many records a checkpoint of this point has
abbrev pub records_at : List Entry → Moment → ℕ
records_at journal point =
    records (tables_at (journal_at journal point)) (rights_at (journal_at journal point))

-- the checkpoints that are kept, and then the active one, each by its number and its point
abbrev pub with_active : List (ℕ × Moment) → Option ActiveCheckpoint → List (ℕ × Moment)
with_active finished None = finished
with_active finished (Some a) = finished ++ (a.number, a.point) ∷ []

-- above this number and from this point on numbers rise, and points don't fall
abbrev pub IsRising : ℕ → ℕ → List (ℕ × Moment) → Type 0
IsRising number point [] = Unit {0}
IsRising number point (c ∷ cs) = (number < c.0) × (point ≤ c.1.0) × IsRising c.0 c.1.0 cs

-- an active checkpoint is the last that was begun, and has from one record to all of them left
abbrev pub IsSoundActive : List Entry → ℕ → Option ActiveCheckpoint → Type 0
IsSoundActive journal begun None = Unit {0}
IsSoundActive journal begun (Some a) =
    (a.number ≡ begun) × (0 < a.left) × (a.left ≤ records_at journal a.point)

-- checkpoints as a system may have them
pub record AreSound (w : World) : Type 0 where
  pub within : w.begun ≤ w.limits.checkpoints
  pub few : length w.finished ≤ 8
  pub rising : IsRising 0 0 (with_active w.finished w.active)
  pub begun : AllByRecursion (λ c. c.0 ≤ w.begun) w.finished
  pub past : AllByRecursion (λ c. c.1.0 ≤ length w.journal) (with_active w.finished w.active)
  pub active : IsSoundActive w.journal w.begun w.active

-- each entry was allowed at the journal before it, and the checkpoints are sound
pub record IsLawfulWorld (w : World) : Type 0 where
  pub journal : IsLawful w.limits w.journal
  pub checkpoints : AreSound w

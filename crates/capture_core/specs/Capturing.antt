-- What a capture stands for, and what each call makes of it.
use Rattle.std.specs.Prelude.{ℕ, ◌≡◌, ◌+◌, ◌-◌, ◌<◌, ◌≤◌, nat_le, nat_lt, if◌then◌else◌, is_some, List, ◌++◌, length, take, sum_by, Option, Some, None, option_map}
use Rattle.std.specs.Arc.{arc_value}
use Rattle.base_core.specs.declared.name.Name.{Name}
use Rattle.base_core.specs.declared.value.Moment.{Moment}
use Rattle.base_core.specs.declared.lack.Lack.{Lack}
use Rattle.base_core.specs.declared.lack.Lack.TheVariants.{Full, Busy}
use Rattle.base_core.specs.declared.lack.What.TheVariants.{Checkpoints}
use Rattle.tables_core.specs.Contents.{Table, Database}
use Rattle.grants_core.specs.Content.{Rights}
use Rattle.grants_core.specs.declared.grant.Grant.{Grant}
use Rattle.capture_core.specs.declared.image.Image.{Image}
use Rattle.capture_core.specs.declared.progress.Progress.{Progress}
use Rattle.capture_core.specs.declared.progress.Progress.TheVariants.{Idle, Left, Done}
use Rattle.capture_core.specs.Image.{image, records}
use Rattle.capture_core.specs.Filling.{Filled, completed_from, AreGiven}

-- an active capture: its number and point; how many records are left; its tables, as far as they are
-- filled; and the grants that were taken
pub record ActiveCapture : Type 0 where
  pub number : ℕ
  pub point : Moment
  pub left : ℕ
  pub filled : Filled
  pub grants : List Grant

-- how many checkpoints were begun, and the capture that is active, if one is
pub record Capturing : Type 0 where
  pub begun : ℕ
  pub active : Option ActiveCapture

-- the image to come: what was taken, and behind it the rows and grants that are still due
abbrev pub coming : ActiveCapture → Database → List Grant → Image
coming a d grants = record {
  number = a.number;
  point = a.point;
  tables = completed_from d a.filled;
  grants = a.grants ++ grants;
}

-- of the active capture, if one is: its tables are still there; one record at least is left, and one
-- for each row and grant that is due; and the tables that are whole have given all
abbrev pub CanGoOn : Option ActiveCapture → Database → List Grant → Type 0
CanGoOn None d grants = Unit {0}
CanGoOn (Some a) d grants =
    (length d.rest ≤ length d.tables) × (0 < a.left)
    × (sum_by length d.rest + length grants ≤ a.left)
    × AreGiven (take (length a.filled.whole) d.rest)

-- a checkpoint in progress: how many records are left, and the image to come, whose number and point
-- are the checkpoint's
pub record InProgress : Type 0 where
  pub left : ℕ
  pub coming : Image

-- the active capture as a checkpoint in progress, by the tables and grants that it takes from
abbrev pub in_progress : Option ActiveCapture → Database → List Grant → Option InProgress
in_progress active d grants =
    option_map (λ a. record { left = a.left; coming = coming a d grants }) active

-- why no checkpoint may be begun: one is active, or as many were begun as there may be
abbrev pub begin_lack : Capturing → ℕ → Option Lack
begin_lack c limit =
    if is_some c.active then Some Busy
    else (if nat_le limit c.begun then Some (Full Checkpoints) else None)

-- a checkpoint of these tables and rights, with no record taken yet
abbrev pub newly_begun : ℕ → Moment → List (Name × Table) → Rights → InProgress
newly_begun number point tables rights =
    record { left = records tables rights; coming = image number point tables rights }

-- k records fewer are left; with none left the checkpoint is no more in progress
abbrev pub taken_off : ℕ → InProgress → Option InProgress
taken_off k p = if nat_lt k p.left then Some (record p { left = p.left - k }) else None

-- what a step of k tells, by what was in progress: that nothing was; how many records are left now;
-- or, with none left, the image that was to come
abbrev pub TellsProgress : ℕ → Option InProgress → Progress → Type 0
TellsProgress k None Idle = Unit {0}
TellsProgress k None (Left n) = ⊥
TellsProgress k None (Done arc) = ⊥
TellsProgress k (Some p) Idle = ⊥
TellsProgress k (Some p) (Left n) = (k < p.left) × (n ≡ p.left - k)
TellsProgress k (Some p) (Done arc) = (p.left ≤ k) × (arc_value arc ≡ p.coming)

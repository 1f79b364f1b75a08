-- How the tables, the rights and the images stand to the journal.
use Rattle.std.specs.Prelude.{ℕ, ◌+◌, ◌≡◌, ◌≤◌, ◌<◌, ◌*◌, true, false, List, [], ◌∷◌, length, map, Option, Some, None, option_map, option_and_then, Ok}
use Rattle.std.specs.List.{AllByRecursion}
use Rattle.std.specs.Option.{option_map_or}
use Rattle.base_core.specs.declared.name.Name.{Name}
use Rattle.base_core.specs.declared.name.User.{User}
use Rattle.base_core.specs.declared.value.Moment.{Moment}
use Rattle.base_core.specs.declared.value.Row.{Row}
use Rattle.base_core.specs.declared.lack.Lack.TheVariants as lacks
use Rattle.base_core.specs.declared.limits.Limits.{Limits}
use Rattle.tables_core.specs.Contents.{Table, Database, table_of}
use Rattle.grants_core.specs.Owners.{owner_of, was_granted}
use Rattle.grants_core.specs.Content.{Rights}
use Rattle.grants_core.specs.declared.grant.Grant.{Grant}
use Rattle.grants_core.specs.History.{granted}
use Rattle.system_core.specs.declared.machine.event.Entry.{Entry}
use Rattle.monitor_core.specs.Verdict.{Check, require, first_lack, is_table, columns_of}
use Rattle.capture_core.specs.Image.{image, row_total, has, columns_in}
use Rattle.capture_core.specs.Capturing.{Capturing, InProgress, CanGoOn, in_progress, newly_begun, taken_off}
use Rattle.capture_core.specs.declared.image.Image.{Image}
use Rattle.export_core.specs.Export.{held, listed_marks, is_any}
use Rattle.system_core.specs.Journal.{tables_at, changes, rights_at, IsLawful}
use Rattle.system_core.specs.Exports.{journal_at}
use Rattle.system_core.specs.World.{World, ActiveCheckpoint, AreSound}
use Rattle.system_core.specs.Carrying.{most_columns, most_grants}

-- how many rows were ever inserted into the table of this name
abbrev pub inserted_of : List (Name × Table) → Name → ℕ
inserted_of tables name = option_map_or (λ t. t.inserted) (table_of tables name) 0

-- rights are as others, but for the owners of names that are no tables: no verdict reads these. A
-- creation that found no memory may leave one.
pub record AgreeOn (tables : List (Name × Table)) (rights others : Rights) : Type 0 where
  pub in_force : rights.in_force ≡ others.in_force
  pub made : rights.made ≡ others.made
  pub owned : (name : Name)
      → is_table tables name ≡ true
      → owner_of rights.owners name ≡ owner_of others.owners name
  pub fresh : (name : Name) → is_table tables name ≡ false → was_granted rights.owners name ≡ false

-- what holds of a lawful journal by itself
pub record IsSoundJournal (limits : Limits) (journal : List Entry) : Type 0 where
  pub lawful : IsLawful limits journal
  pub few : length journal ≤ limits.changes
  pub inserted : (name : Name) → inserted_of (tables_at journal) name ≤ length journal
  pub narrow : (name : Name) → length (columns_of (tables_at journal) name) ≤ most_columns
  pub on_tables : AllByRecursion
      (λ g. is_table (tables_at journal) g.atom.table ≡ true) (granted (changes journal))
  pub made_few : (rights_at journal).made ≤ most_grants * length journal
  pub rows_few : row_total (tables_at journal) ≤ length journal

-- what a ledger stands for: the accepted changes, the limits that they are judged by, and the rows and
-- grants that a capture has still to take
pub record LedgerState : Type 0 where
  pub journal : List Entry
  pub limits : Limits
  pub rows_due : List (List Row)
  pub grants_due : List Grant

-- what a ledger keeps
pub record KeepsJournal (limits : Limits) (journal : List Entry) (tables : List (Name × Table))
    (rights : Rights) : Type 0 where
  pub sound : IsSoundJournal limits journal
  pub tables_of : tables ≡ tables_at journal
  pub agree : AgreeOn (tables_at journal) rights (rights_at journal)

-- ---- checkpoints
-- how many checkpoints were begun, and the one in progress, if one is
pub record Checkpointing : Type 0 where
  pub begun : ℕ
  pub active : Option InProgress

-- the tables of the journal, with the rows that are due
abbrev pub database_of : LedgerState → Database
database_of accepted = record { tables = tables_at accepted.journal; rest = accepted.rows_due }

-- the checkpoints of a capture that takes from these tables and rights
abbrev pub checkpointing : Capturing → LedgerState → Checkpointing
checkpointing c accepted = record {
  begun = c.begun;
  active = in_progress c.active (database_of accepted) accepted.grants_due;
}

-- one more is begun, of the tables and rights of the journal
abbrev pub after_begin : List Entry → Checkpointing → Checkpointing
after_begin journal c = record {
  begun = c.begun + 1;
  active = Some (newly_begun (c.begun + 1) (record { 0 = length journal })
      (tables_at journal) (rights_at journal));
}

-- a step takes k records off the one in progress
abbrev pub after_step : ℕ → Checkpointing → Checkpointing
after_step k c = record c { active = option_and_then (taken_off k) c.active }

-- a checkpoint in progress, as a world has it
abbrev pub as_active : InProgress → ActiveCheckpoint
as_active a = record { number = a.coming.number; point = a.coming.point; left = a.left }

-- the world of a system with these accepted changes, these checkpoints, and these kept images
abbrev pub world_of : ℕ → LedgerState → Checkpointing → List Image → World
world_of chunk accepted checkpoints images = record {
  journal = accepted.journal;
  begun = checkpoints.begun;
  finished = map (λ image. (image.number, image.point)) images;
  active = option_map as_active checkpoints.active;
  chunk = chunk;
  limits = accepted.limits;
}

-- what a checkpoint of this number keeps of a journal, at its point
abbrev pub image_at : List Entry → ℕ → Moment → Image
image_at journal number point =
    image number point (tables_at (journal_at journal point)) (rights_at (journal_at journal point))

-- the image is what its checkpoint keeps of the journal, at a point of it
pub record IsImageOf (journal : List Entry) (image : Image) : Type 0 where
  pub past : image.point.0 ≤ length journal
  pub is : image ≡ image_at journal image.number image.point

-- the image to come is what the checkpoint in progress keeps
abbrev pub IsComing : List Entry → Option InProgress → Type 0
IsComing journal None = Unit {0}
IsComing journal (Some a) = IsImageOf journal a.coming

-- what a system keeps of its checkpoints
pub record KeepsCheckpoints (chunk : ℕ) (accepted : LedgerState) (checkpoints : Checkpointing)
    (images : List Image) : Type 0 where
  pub some : 0 < chunk
  pub small : chunk ≤ 64
  pub images_of : AllByRecursion (IsImageOf accepted.journal) images
  pub coming_of : IsComing accepted.journal checkpoints.active
  pub sound : AreSound (world_of chunk accepted checkpoints images)

-- what a system keeps: its checkpoints, and what its capture needs to go on
pub record Stands (chunk : ℕ) (accepted : LedgerState) (capture : Capturing) (images : List Image)
    : Type 0 where
  pub keeps : KeepsCheckpoints chunk accepted (checkpointing capture accepted) images
  pub goes_on : CanGoOn capture.active (database_of accepted) accepted.grants_due

-- ---- exports of images
-- the first lack of an export of the image, by the rights now
abbrev pub image_check : Image → Rights → User → Option Name → Check
image_check image now user None = Ok tt
image_check image now user (Some table) =
    first_lack (
    require (has image table) (lacks.NoTableThen table image.number)
    ∷ require (is_any (held image user table (columns_in image table)))
    (lacks.NoSelectThen user table)
    ∷ require (is_any (listed_marks image now user table (columns_in image table)))
    (lacks.NoSelectNow user table)
    ∷ []
    )

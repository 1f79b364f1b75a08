-- What a ticket stands for, and what each call makes of it.
use Rattle.std.specs.Prelude.{◌≡◌, ℕ, ◌+◌, ◌<◌, List, [], ◌++◌, length, take, drop, slice_get, Option, Some, codes, decimal}
use Rattle.std.specs.List.{concat}
use Rattle.std.specs.Io.KnownBytes.{Appends}
use Rattle.base_core.specs.declared.name.Name.{Name}
use Rattle.base_core.specs.declared.name.User.{User}
use Rattle.base_core.specs.declared.value.Moment.{Moment}
use Rattle.grants_core.specs.Content.{Rights}
use Rattle.capture_core.specs.declared.image.Image.{Image}
use Rattle.export_core.specs.Export.{image_export}
use Rattle.export_core.specs.declared.fault.ExportFault.{ExportFault}
use Rattle.export_core.specs.declared.fault.ExportFault.TheVariants as faults

-- an export on its way: the checkpoint's number and point, the moment of the request, the records given
-- so far, and those to come
pub record TicketState : Type 0 where
  pub number : ℕ
  pub point : Moment
  pub at : Moment
  pub given : List (List ℕ)
  pub to_come : List (List ℕ)

-- an export of which nothing was given yet
abbrev pub issued : Image → Rights → User → Option Name → Moment → TicketState
issued image now user only at =
    record {
      number = image.number;
      point = image.point;
      at = at;
      given = [];
      to_come = image_export image now user only;
    }

-- the line that goes before the records
abbrev pub header_line : TicketState → List ℕ
header_line e =
    codes "export " ++ decimal e.number ++ codes " point " ++ decimal e.point.0 ++ codes " @"
    ++ decimal e.at.0 ++ codes "\n"

-- n more records were given, or all where they are no more
abbrev pub after_giving : ℕ → TicketState → TicketState
after_giving n e = record e { given = e.given ++ take n e.to_come; to_come = drop n e.to_come }

-- all records were given
abbrev pub finished : TicketState → TicketState
finished e = record e { given = e.given ++ e.to_come; to_come = [] }

-- the next n records were given and written
pub record WritesRecords (n : ℕ) (old new : TicketState)
    (before after : Option (List ℕ)) : Type 0 where
  pub gave : new ≡ after_giving n old
  pub wrote : Appends before after (concat (take n old.to_come))

-- some of the next records were given and written, at least one where one was to come
abbrev pub WritesSome : TicketState → TicketState → Option (List ℕ) → Option (List ℕ) → Type 0
WritesSome old new before after = (n : ℕ) × (0 < n) × WritesRecords n old new before after

-- the next n records were given and written, and of the one behind them, which counts as given, a front
-- was written
pub record BreaksRecord (n : ℕ) (old new : TicketState)
    (before after : Option (List ℕ)) : Type 0 where
  pub front : List ℕ
  pub unwritten : List ℕ
  pub broken : slice_get old.to_come n ≡ Some (front ++ unwritten)
  pub gave : new ≡ after_giving (n + 1) old
  pub wrote : Appends before after (concat (take n old.to_come) ++ front)

-- where the writing stopped before the end: without memory for a record, which comes next, or in the
-- middle of one
abbrev pub Stops : ExportFault → TicketState → TicketState
    → Option (List ℕ) → Option (List ℕ) → Type 0
Stops faults.NoMemory old new before after =
    (n : ℕ) × (n < length old.to_come) × WritesRecords n old new before after
Stops faults.Write old new before after = (n : ℕ) × BreaksRecord n old new before after

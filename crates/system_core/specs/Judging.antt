-- How a statement is judged at a world: as the monitor judges it at the journal, and then by the
-- checkpoints.
use Rattle.std.specs.Prelude.{ℕ, not, nat_lt, ◌==◌, List, [], ◌∷◌, find, reverse, is_some, Option, Some, None, Ok, option_map}
use Rattle.std.specs.Option.{option_map_or, unwrap_or}
use Rattle.base_core.specs.declared.name.Name.{Name}
use Rattle.base_core.specs.declared.name.User.{User}
use Rattle.base_core.specs.declared.value.Moment.{Moment}
use Rattle.base_core.specs.declared.lack.Lack.{Lack}
use Rattle.base_core.specs.declared.lack.Lack.TheVariants as lacks
use Rattle.base_core.specs.declared.lack.What.TheVariants as whats
use Rattle.reader_core.specs.declared.statement.Statement.{Statement}
use Rattle.reader_core.specs.declared.statement.Statement.TheVariants as statements
use Rattle.export_core.specs.Export.{is_any}
use Rattle.monitor_core.specs.Verdict.{Check, require, first_lack, is_table, columns_of}
use Rattle.system_core.specs.declared.machine.event.Entry.{Entry}
use Rattle.system_core.specs.Journal.{tables_at, verdict_at}
use Rattle.system_core.specs.Exports.{journal_at, could_select, shown}
use Rattle.system_core.specs.World.{World, moment_of}

-- the point of the finished checkpoint of this number, if it is kept
abbrev pub point_of : World → ℕ → Option Moment
point_of w number = option_map (λ c. c.1) (find (λ c. c.0 == number) (reverse w.finished))

-- ---- the single checks
abbrev pub none_is_active : World → Check
none_is_active w = require (not (is_some w.active)) lacks.Busy

abbrev pub room_for_checkpoint : World → Check
room_for_checkpoint w = require (nat_lt w.begun w.limits.checkpoints) (lacks.Full whats.Checkpoints)

abbrev pub is_kept : Option Moment → ℕ → Check
is_kept point number = require (is_some point) (lacks.NoCheckpoint number)

-- a check at the point of what is kept, if it is
abbrev pub at_point : Option Moment → (Moment → Check) → Check
at_point point check = option_map_or check point (Ok tt)

abbrev pub stood_then : List Entry → Name → ℕ → Check
stood_then past table number =
    require (is_table (tables_at past) table) (lacks.NoTableThen table number)

-- the user could select a column of the table at the point
abbrev pub could_select_then : List Entry → User → Name → Check
could_select_then past user table =
    require (is_any (could_select past user table (columns_of (tables_at past) table)))
    (lacks.NoSelectThen user table)

-- he could select one then that he may select now
abbrev pub may_select_now : (past now : List Entry) → User → Name → Check
may_select_now past now user table =
    require (is_any (shown past now user table (columns_of (tables_at past) table)))
    (lacks.NoSelectNow user table)

-- of a checkpoint all may be exported, by the journals at its point and now; a table alone, where
-- it stood at the point, and the user could select a column of it then that he may select now
abbrev pub export_check : (past now : List Entry) → ℕ → User → Option Name → Check
export_check past now number user None = Ok tt
export_check past now number user (Some table) =
    first_lack (stood_then past table number ∷ could_select_then past user table
    ∷ may_select_now past now user table ∷ [])

-- ---- the checks of checkpoints, in their order
abbrev pub checkpoint_checks : World → User → Statement → List Check
checkpoint_checks w user statements.Checkpoint = none_is_active w ∷ room_for_checkpoint w ∷ []
checkpoint_checks w user (statements.Export number only) =
    is_kept (point_of w number) number
    ∷ at_point (point_of w number)
    (λ point. export_check (journal_at w.journal point) w.journal number user only)
    ∷ []
checkpoint_checks w user statements.Checkpoints = []
checkpoint_checks w user (statements.CreateTable table columns) = []
checkpoint_checks w user (statements.Insert table values) = []
checkpoint_checks w user (statements.Select list table filter) = []
checkpoint_checks w user (statements.Delete table filter) = []
checkpoint_checks w user (statements.Update table sets filter) = []
checkpoint_checks w user (statements.Grant privileges table users option) = []
checkpoint_checks w user (statements.Revoke privileges table users) = []
checkpoint_checks w user (statements.RevokeOption privileges table users) = []

-- the verdict on what a user asks of a world
abbrev pub verdict_of : World → User → Statement → Check
verdict_of w user asked =
    first_lack (verdict_at w.limits w.journal user asked ∷ checkpoint_checks w user asked)

-- the moment that a lack bears: of what was missing at a checkpoint its point, and of all else now
abbrev pub moment_for : Moment → Moment → Lack → Moment
moment_for point now (lacks.NoTableThen table number) = point
moment_for point now (lacks.NoSelectThen user table) = point
moment_for point now lack = now

-- the moment at which a statement is judged, where this is its lack
abbrev pub judged_at : World → Statement → Lack → Moment
judged_at w (statements.Export number only) lack =
    moment_for (unwrap_or (point_of w number) (moment_of w)) (moment_of w) lack
judged_at w asked lack = moment_of w

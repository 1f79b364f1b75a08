-- The steps of the machine, from one world to the next.
use Rattle.std.specs.Prelude.{ℕ, ◌≡◌, ◌+◌, ◌-◌, ◌<◌, ◌≤◌, true, List, [], ◌∷◌, ◌++◌, map, if◌then◌else◌, Result, Ok, Err, Option, Some, None, option_map, IsSomeAnd}
use Rattle.base_core.specs.Lacks.{is_denial}
use Rattle.base_core.specs.declared.name.User.{User}
use Rattle.base_core.specs.declared.value.Row.{Row}
use Rattle.base_core.specs.declared.value.Moment.{Moment}
use Rattle.base_core.specs.declared.lack.Lack.{Lack}
use Rattle.base_core.specs.declared.memory.NoMemory.{NoMemory}
use Rattle.base_core.specs.declared.lack.Lack.TheVariants as lacks
use Rattle.reader_core.specs.declared.statement.Statement.{Statement}
use Rattle.reader_core.specs.declared.statement.Statement.TheVariants as statements
use Rattle.tables_core.specs.Contents.{selected_rows, table_of}
use Rattle.monitor_core.specs.Atoms.{columns_given}
use Rattle.monitor_core.specs.Verdict.{Check, columns_of, is_change}
use Rattle.catalogue_core.specs.Kept.{last_eight}
use Rattle.export_core.specs.Ticket.{TicketState}
use Rattle.system_core.specs.declared.machine.event.Entry.{Entry}
use Rattle.system_core.specs.declared.machine.event.Event.{Event}
use Rattle.system_core.specs.declared.machine.event.Event.TheVariants as events
use Rattle.system_core.specs.declared.machine.event.Checkpoint.{Checkpoint}
use Rattle.system_core.specs.declared.machine.event.Checkpoint.TheVariants as checkpoints
use Rattle.system_core.specs.declared.machine.event.Reply.{Reply}
use Rattle.system_core.specs.declared.machine.event.Reply.TheVariants as replies
use Rattle.system_core.specs.Journal.{tables_at}
use Rattle.system_core.specs.Exports.{export_of}
use Rattle.system_core.specs.World.{World, ActiveCheckpoint, entry, moment_of, next_moment, with_entry, records_at}
use Rattle.system_core.specs.Judging.{point_of, verdict_of, judged_at}
use Rattle.system_core.specs.Describing.{denial_in, Describes}

-- the reply to a lack: a denial names what is missing, a refusal what does not fit, is full, or is busy
abbrev pub lack_reply : Moment → Lack → Reply
lack_reply at lack = if is_denial lack then replies.Denied at lack else replies.Refused at lack

-- the reply to an allowed change that was asked at this moment: the moment that it made, or that memory
-- was refused
abbrev pub change_reply : Moment → Result Moment NoMemory → Reply
change_reply at (Ok made) = replies.Done made
change_reply at (Err _) = replies.Refused at lacks.NoMemory

-- ---- answers that change nothing
-- the rows that answer a query: those of the table that the filter chooses, cut to the columns given
abbrev pub IsAnswer : List Entry → Statement → List Row → Type 0
IsAnswer journal (statements.Select list table filter) rows =
    let tables = tables_at journal in
    option_map (selected_rows (columns_given (columns_of tables table) list) filter)
    (table_of tables table)
    ≡ Some rows
IsAnswer journal _ rows = ⊥

abbrev pub active_listed : Option ActiveCheckpoint → List Checkpoint
active_listed None = []
active_listed (Some a) = checkpoints.Active a.number a.point a.left ∷ []

-- the checkpoints that are kept, the oldest first, and then the active one
abbrev pub listed_checkpoints : World → List Checkpoint
listed_checkpoints w = map (λ c. checkpoints.Kept c.0 c.1) w.finished ++ active_listed w.active

-- the export of a kept checkpoint, by the journals at its point and now
abbrev pub IsExport : World → User → Statement → TicketState → Type 0
IsExport w user (statements.Export number only) ticket =
    IsSomeAnd (point_of w number) (λ point. ticket ≡ export_of w.journal number point user only)
IsExport w user _ ticket = ⊥

-- ---- what becomes of checkpoints
-- one more is begun, at this moment, with all its records left
abbrev pub with_begun : World → World
with_begun w = record w {
  begun = w.begun + 1;
  active =
      Some (record {
        number = w.begun + 1;
        point = moment_of w;
        left = records_at w.journal (moment_of w);
      });
}

-- so many records of the active one are left
abbrev pub with_left : World → ActiveCheckpoint → ℕ → World
with_left w a left = record w { active = Some (record a { left = left }) }

-- the active one is finished, and of those that are kept the last eight stay
abbrev pub with_finished : World → ActiveCheckpoint → World
with_finished w a =
    record w { finished = last_eight (w.finished ++ (a.number, a.point) ∷ []); active = None }

-- the active one is given up; its number stays used
abbrev pub with_none_active : World → World
with_none_active w = record w { active = None }

-- ---- one event
-- a statement that may be refused memory: each but CHECKPOINT
abbrev pub TakesMemory : Statement → Type 0
TakesMemory statements.Checkpoint = ⊥
TakesMemory _ = Unit {0}

-- what may come of an allowed statement
abbrev pub CarriesOut : World → Entry → Reply → World → Type 0
CarriesOut old e (replies.Done at) new =
    (is_change e.statement ≡ true) × (at ≡ next_moment old) × (new ≡ with_entry old e)
CarriesOut old e (replies.Rows at rows) new =
    IsAnswer old.journal e.statement rows × (at ≡ moment_of old) × (new ≡ old)
CarriesOut old e (replies.Listed at entries) new =
    (e.statement ≡ statements.Checkpoints)
    × (entries ≡ listed_checkpoints old)
    × (at ≡ moment_of old)
    × (new ≡ old)
CarriesOut old e (replies.Begun number at) new =
    (e.statement ≡ statements.Checkpoint)
    × (number ≡ old.begun + 1)
    × (at ≡ moment_of old)
    × (new ≡ with_begun old)
CarriesOut old e (replies.Export ticket) new = IsExport old e.user e.statement ticket × (new ≡ old)
CarriesOut old e (replies.Refused at lack) new =
    TakesMemory e.statement × (lack ≡ lacks.NoMemory) × (at ≡ moment_of old) × (new ≡ old)
CarriesOut old e (replies.Described at columns) new = ⊥
CarriesOut old e (replies.Denied at lack) new = ⊥
CarriesOut old e replies.Idle new = ⊥
CarriesOut old e (replies.Stepped number left) new = ⊥
CarriesOut old e (replies.Finished number) new = ⊥
CarriesOut old e (replies.Abandoned number) new = ⊥

-- what may come of a statement, by its verdict
abbrev pub Responds : World → Entry → Check → Reply → World → Type 0
Responds old e (Err lack) reply new =
    (reply ≡ lack_reply (judged_at old e.statement lack) lack) × (new ≡ old)
Responds old e (Ok _) reply new = CarriesOut old e reply new

-- what may come of a step of the checkpointer, by what is active
abbrev pub Advances : World → Option ActiveCheckpoint → Reply → World → Type 0
Advances old None reply new = (reply ≡ replies.Idle) × (new ≡ old)
Advances old (Some a) (replies.Stepped number left) new =
    (old.chunk < a.left)
    × (number ≡ a.number)
    × (left ≡ a.left - old.chunk)
    × (new ≡ with_left old a left)
Advances old (Some a) (replies.Finished number) new =
    (a.left ≤ old.chunk) × (number ≡ a.number) × (new ≡ with_finished old a)
Advances old (Some a) (replies.Refused at lack) new =
    (lack ≡ lacks.NoMemory) × (at ≡ moment_of old) × (new ≡ old)
Advances old (Some a) _ new = ⊥

-- what comes of giving up what is active
abbrev pub GivesUp : World → Option ActiveCheckpoint → Reply → World → Type 0
GivesUp old None reply new = (reply ≡ replies.Idle) × (new ≡ old)
GivesUp old (Some a) reply new = (reply ≡ replies.Abandoned a.number) × (new ≡ with_none_active old)

-- from old, an event may be answered by the reply and lead to new
abbrev pub Step : World → Event → Reply → World → Type 0
Step old (events.Say pass user asked) reply new =
    Responds old (entry pass user asked) (verdict_of old user asked) reply new
Step old (events.Describe user asked) reply new =
    Describes old asked (denial_in (verdict_of old user asked)) reply × (new ≡ old)
Step old events.Step reply new = Advances old old.active reply new
Step old events.Abandon reply new = GivesUp old old.active reply new

-- ---- one event after another
abbrev pub Run : World → List Event → List Reply → World → Type 0
Run old [] [] new = new ≡ old
Run old (e ∷ es) (reply ∷ replies) new =
    (mid : World) × Step old e reply mid × Run mid es replies new
Run old [] (reply ∷ replies) new = ⊥
Run old (e ∷ es) [] new = ⊥

-- a run of the first events, which are all that were done
abbrev pub IsRunOfSome : World → List Event → List Reply → World → Type 0
IsRunOfSome old events replies new =
    (front : List Event)
    × (rest : List Event)
    × (events ≡ front ++ rest)
    × Run old front replies new

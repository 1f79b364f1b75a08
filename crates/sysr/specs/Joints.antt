-- What `journal` and `dump` do between their streams. Of a reader, `left` is what it has to come; of a
-- writer, `taken` is what was given to it.
use Rattle.std.specs.Prelude.{◌≡◌, ℕ, Bool, true, false, ◌&&◌, ◌||◌, List, [], Option, None, Ok}
use Rattle.std.specs.Option.{is_some}
use Rattle.sysr.specs.declared.command.reading.Reading.{Reading}
use Rattle.dump_core.specs.Ending.{EndsDump}
use Rattle.journal_core.specs.Keeping.{EndsJournal}
use Rattle.load_core.specs.Replaying.{EndsReplay, ReplayedState}
use Rattle.load_core.specs.declared.manner.Manner.{Manner}
use Rattle.system_core.specs.World.{World}

-- how lines that are read so are replayed to their end: 64 bits count all their changes
abbrev pub to_the_end : Reading → Manner
to_the_end reading =
    record { form = reading.form; cut_line = reading.cut_line; most = 18446744073709551615 }

abbrev pub status_if : Bool → ℕ
status_if true = 1
status_if false = 0

-- the status behind these: 1 where a line was left out or dropped and that is to be strict
abbrev pub status_behind : Reading → ReplayedState → ℕ
status_behind reading leavings =
    status_if (reading.strict && (is_some leavings.first_left_out || is_some leavings.dropped))

-- from a core on with the limits that are asked for, which is empty where no file is loaded, all lines
-- were replayed, and left this
pub record ReplaysAll {A : Type 0} (load : Option A) (reading : Reading)
    (left left' : Option (List ℕ)) : Type 0 where
  pub begins : World
  pub leavings : ReplayedState
  pub limits_are : begins.limits ≡ reading.limits
  pub empty : load ≡ None → begins.journal ≡ []
  pub replays : EndsReplay (to_the_end reading) begins (Ok leavings) left left'

-- what the lines leave was written whole as a journal, and this is the status
pub record WritesJournal (reading : Reading) (left left' taken taken' : Option (List ℕ)) (status : ℕ)
    : Type 0 where
  pub replayed : ReplaysAll {A = Unit {0}} None reading left left'
  pub written : EndsJournal (Ok tt) replayed.leavings.world.journal taken taken'
  pub status_is : status ≡ status_behind reading replayed.leavings

-- what a file and the lines leave was written whole as a dump, and this is the status
pub record WritesDump {A : Type 0} (load : Option A) (reading : Reading)
    (left left' taken taken' : Option (List ℕ)) (status : ℕ) : Type 0 where
  pub replayed : ReplaysAll load reading left left'
  pub written : EndsDump replayed.leavings.world.journal (Ok tt) taken taken'
  pub status_is : status ≡ status_behind reading replayed.leavings

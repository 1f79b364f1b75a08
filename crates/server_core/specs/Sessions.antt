-- What becomes of the passes of a server: workers go on with sessions through theirs, the checkpointer's
-- goes through looks at the active checkpoint, the tender's through looks at what is kept and CHECKPOINTs,
-- and nothing else is done through them.
use Rattle.std.specs.Prelude.{◌≡◌, ◌⊎◌, ℕ, ◌+◌, List, [], ◌∷◌, ◌++◌, map, sum_by, All, Option, Some, None}
use Rattle.base_core.specs.declared.name.User.{User}
use Rattle.lines_core.specs.Serving.{Traffic, traffic_of}
use Rattle.turnstile.specs.Passes.{IsSamePass}
use Rattle.turnstile.specs.Logs.{StartsWith}
use Rattle.turnstile.specs.Closed.{AreAll}
use Rattle.system_core.specs.declared.machine.event.Entry.{Entry}
use Rattle.system_core.specs.World.{World}
use Rattle.desk_core.specs.Guarded.{DeskLock, DeskPass, DeskNote, origin_of, origin_at}
use Rattle.desk_core.specs.Turns.{Ended}
use Rattle.session_core.specs.Checking.{LooksRepeatedly}
use Rattle.session_core.specs.Gains.{Watches}
use Rattle.session_core.specs.Tending.{Tends}
use Rattle.session_core.specs.declared.admission.Admission.{Admission}
use Rattle.session_core.specs.Machines.{Protocol}
use Rattle.session_core.specs.Parking.{GainsFor, pass_note}
use Rattle.door_core.specs.Entrance.{Admittance, IsAdmitted}

-- the pass is one of this desk
abbrev pub IsOf : {K : Type 0} → DeskLock K → DeskPass K → Type 0
IsOf desk pass = pass.lock ≡ Some desk

-- what sockets have left and have taken
abbrev pub nothing_known : Traffic
nothing_known = traffic_of None None None None

-- whose a session's note is, or this one's, where it has none
abbrev pub lock_told : {K : Type 0} → Option (DeskLock K) → Option (DeskNote K) → Option (DeskLock K)
lock_told lock (Some note) = note.lock
lock_told lock None = lock

-- a worker: what his pass knows, and how many sessions he was admitted
pub record Working (K : Type 0) : Type 0 where
  pub pass : DeskPass K
  pub sessions : ℕ

-- a server's sessions are at this desk, behind this entrance
abbrev pub IsOfInstance : {K : Type 0} → Option (DeskLock K) → Admittance → DeskLock K → Admittance
    → Type 0
IsOfInstance its_desk its_by desk by = (its_desk ≡ Some desk) × (its_by ≡ by)

-- the pass of this number, as the desk was built on this journal
abbrev pub new_pass : {K : Type 0} → List Entry → DeskLock K → ℕ → DeskPass K
new_pass journal desk number =
    record {
      lock = Some desk;
      number = number;
      seen = journal;
      mark = 0;
      turns = 0;
      drawn = desk.start;
    }

-- nothing was done through the pass yet
abbrev pub IsNew : {K : Type 0} → List Entry → DeskLock K → DeskPass K → Type 0
IsNew journal desk pass = pass ≡ new_pass journal desk pass.number

-- a worker who has served nobody, with the pass of this number
abbrev pub new_worker : {K : Type 0} → List Entry → DeskLock K → ℕ → Working K
new_worker journal desk number = record { pass = new_pass journal desk number; sessions = 0 }

-- he has served nobody yet
abbrev pub IsNewWorker : {K : Type 0} → List Entry → DeskLock K → Working K → Type 0
IsNewWorker journal desk worker = worker ≡ new_worker journal desk worker.pass.number

-- since the desk was built, the pass looked after checkpoints, and nothing else was done
abbrev pub IsCheckpointers : {K : Type 0} → List Entry → DeskLock K → DeskPass K → Type 0
IsCheckpointers journal desk pass =
    LooksRepeatedly desk (new_pass journal desk pass.number) pass

-- since the desk was built, what is kept of changes was tended through the pass, and nothing else was done
abbrev pub IsTenders : {K : Type 0} → List Entry → DeskLock K → DeskPass K → Type 0
IsTenders journal desk pass = Tends desk (new_pass journal desk pass.number) pass

-- By which protocol sessions go, and how they come by their users.
module _ {K : Type 0} (protocol : Protocol K) (by : Admittance) where
  -- Where they are answered at this desk.
  module _ (desk : DeskLock K) where
    -- A worker goes on with a session through his pass, over the bytes of some client. It came by its user
    -- as sessions of the entrance do. It went by the protocol up to here, through passes of which each had
    -- seen no less than the session had, as if it ended here. This pass has then seen all that the session
    -- has, and what it gained meanwhile are entries of the session's user.
    pub record Attends (old new : DeskPass K) : Type 0 where
      pub admission : Admission
      pub admitted : IsAdmitted by admission
      pub user : Option User
      pub spoken : protocol desk admission user (Some (pass_note desk new)) nothing_known
      pub gained : GainsFor user old new

    -- He goes on with one, or with none.
    abbrev pub ServesPiece : DeskPass K → DeskPass K → Type 0
    ServesPiece old new = (new ≡ old) ⊎ (IsSamePass old new × ∥ Attends old new ∥₁)

    -- he goes on with pieces of sessions, one after another, and looks meanwhile at what is kept
    pub data ServesPieces (old : DeskPass K) : DeskPass K → Type 0 where
      no_piece : ServesPieces old old
      next_piece : (between new : DeskPass K)
          → ServesPieces old between
          → IsSamePass between new
          → ∥ Attends between new ∥₁
          → ServesPieces old new
      looked : (between new : DeskPass K)
          → ServesPieces old between
          → Watches between new
          → ServesPieces old new

    -- sessions that he was admitted, each of which is counted, those that he went on with, and looks at what
    -- is kept, by which his pass has seen more and made nothing
    pub data Attended (old : Working K) : Working K → Type 0 where
      nobody : Attended old old
      admitted : (between : Working K)
          → Attended old between
          → Attended old (record between { sessions = between.sessions + 1 })
      went_on : (between : Working K) (pass : DeskPass K)
          → Attended old between
          → IsSamePass between.pass pass
          → ∥ Attends between.pass pass ∥₁
          → Attended old (record between { pass = pass })
      watched : (between : Working K) (pass : DeskPass K)
          → Attended old between
          → Watches between.pass pass
          → Attended old (record between { pass = pass })

  -- since the desk was built, sessions of the entrance were served through the worker's pass, as many as he
  -- counts, and nothing else was done
  abbrev pub IsWorkers : List Entry → DeskLock K → Working K → Type 0
  IsWorkers journal desk worker =
      Attended desk (new_worker journal desk worker.pass.number) worker

  -- passes of workers, who served so many sessions of the entrance in all, and behind them the tender's
  -- and the checkpointer's
  pub record AreServers (journal : List Entry) (desk : DeskLock K) (sessions : ℕ)
      (passes : List (DeskPass K)) : Type 0 where
    pub workers : List (Working K)
    pub tender : DeskPass K
    pub checkpointer : DeskPass K
    pub passes_are : passes
        ≡ map (λ (w : Working K). w.pass) workers ++ tender ∷ checkpointer ∷ []
    pub sessions_are : sum_by (λ (w : Working K). w.sessions) workers ≡ sessions
    pub served : All (IsWorkers journal desk) workers
    pub tended : IsTenders journal desk tender
    pub checked : IsCheckpointers journal desk checkpointer

  -- The world that a server leaves which was built on the world start, and served so many sessions that came
  -- in at the entrance: that of a desk with a pass for each of so many workers, one for the tender and one for
  -- the checkpointer, which was closed with all its passes. So its journal begins with that of start, and each other entry was
  -- made in one of these sessions.
  pub record Leaves (workers sessions : ℕ) (keeper : K) (start world : World) : Type 0 where
    pub desk : DeskLock K
    pub passes : List (DeskPass K)
    pub count_is : desk.count ≡ workers + 2
    pub start_is : desk.start ≡ 0
    pub origin_is : origin_of desk ≡ origin_at start keeper
    pub all : AreAll desk passes
    pub servers : AreServers start.journal desk sessions passes
    pub ended : Ended desk passes world
    pub begins : StartsWith world.journal start.journal

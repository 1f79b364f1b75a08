-- What is done through its pass by who tends what is kept of a server's changes.
use Rattle.std.specs.Prelude.{◌≡◌, ℕ, List}
use Rattle.base_core.specs.declared.name.User.{User}
use Rattle.reader_core.specs.declared.statement.Statement.TheVariants as statements
use Rattle.turnstile.specs.Passes.{IsSamePass}
use Rattle.system_core.specs.declared.machine.event.Reply.{Reply}
use Rattle.desk_core.specs.declared.object.Ask.{Ask}
use Rattle.desk_core.specs.declared.object.Ask.TheVariants as asks
use Rattle.desk_core.specs.Guarded.{DeskLock, DeskPass}
use Rattle.desk_core.specs.Turns.{Answered}
use Rattle.session_core.specs.Gains.{Watches}

-- what is asked where this user says CHECKPOINT
abbrev pub checkpoint_of : User → Ask
checkpoint_of user = asks.Say (record { user = user; statement = statements.Checkpoint })

-- He looks at what was entered and kept, and says CHECKPOINT as some user, again and again. Nothing else is done
-- through his pass.
pub data Tends {K : Type 0} (desk : DeskLock K) (old : DeskPass K) : DeskPass K → Type 0 where
  untended : Tends desk old old
  looked : (between new : DeskPass K)
      → Tends desk old between
      → Watches between new
      → Tends desk old new
  began : (user : User) (reply : Reply) (between new : DeskPass K)
      → Tends desk old between
      → IsSamePass between new
      → Answered desk (checkpoint_of user) reply between new
      → Tends desk old new

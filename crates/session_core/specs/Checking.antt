-- What the checkpointer does through its pass.
use Rattle.std.specs.Prelude.{◌≡◌, false}
use Rattle.base_core.specs.declared.value.Moment.{Moment}
use Rattle.base_core.specs.declared.lack.Lack.TheVariants as lacks
use Rattle.turnstile.specs.Passes.{IsSamePass}
use Rattle.desk_core.specs.Guarded.{DeskLock, DeskPass}
use Rattle.system_core.specs.Replies.{is_refused_memory}
use Rattle.system_core.specs.declared.machine.event.Reply.{Reply}
use Rattle.system_core.specs.declared.machine.event.Reply.TheVariants as replies
use Rattle.desk_core.specs.declared.object.Ask.TheVariants as asks
use Rattle.desk_core.specs.Turns.{Answered}

-- One look of the checkpointer: a step of the active checkpoint. Where the step was refused memory,
-- and only there, the checkpoint is given up in the next turn.
pub data Looks {K : Type 0} (desk : DeskLock K) (reply : Reply) (old new : DeskPass K) : Type 0 where
  stepped : is_refused_memory reply ≡ false
      → IsSamePass old new
      → Answered desk asks.Step reply old new
      → Looks desk reply old new
  gave_up : (at : Moment) (between : DeskPass K)
      → IsSamePass old between
      → Answered desk asks.Step (replies.Refused at lacks.NoMemory) old between
      → IsSamePass between new
      → Answered desk asks.Abandon reply between new
      → Looks desk reply old new

-- looks, one after another, from what the pass knew to what it knows
pub data LooksRepeatedly {K : Type 0} (desk : DeskLock K) (old : DeskPass K)
    : DeskPass K → Type 0 where
  unchecked : LooksRepeatedly desk old old
  checked : (reply : Reply) (between new : DeskPass K)
      → LooksRepeatedly desk old between
      → Looks desk reply between new
      → LooksRepeatedly desk old new

-- What is known of the pass that looked after checkpoints.
use Rattle.std.proofs.Common.{◌≡◌, ◌^◌, ap}
use Rattle.base_core.specs.declared.value.Moment.{Moment}
use Rattle.base_core.specs.declared.lack.Lack.TheVariants as lacks
use Rattle.desk_core.specs.Guarded.{DeskLock, DeskPass}
use Rattle.system_core.specs.declared.machine.event.Reply.{Reply}
use Rattle.system_core.specs.declared.machine.event.Reply.TheVariants as replies
use Rattle.system_core.proofs.Unworn.{never-worn}
use Rattle.desk_core.specs.declared.object.Ask.{Ask}
use Rattle.desk_core.specs.declared.object.Ask.TheVariants as asks
use Rattle.desk_core.specs.Acting.{event_of}
use Rattle.desk_core.specs.Turns.{Answered, took, spent}
use Rattle.session_core.specs.Checking.{Looks, stepped, gave_up}
use Rattle.session_core.specs.Gains.{Watches}
use Rattle.session_core.proofs.Growing.{step_watches, abandon_watches, Watches-trans}

pub looks_watches : {K : Type 0} (desk : DeskLock K) (reply : Reply) (old new : DeskPass K) → Looks desk reply old new → Watches old new
looks_watches desk reply old new (stepped fine same a) = step_watches desk reply old new same a
looks_watches desk reply old new (gave_up at between same a same' b) =
    Watches-trans old between new (step_watches desk (replies.Refused at lacks.NoMemory) old between same a) (abandon_watches desk reply between new same' b)

answered_worn : {K : Type 0} (desk : DeskLock K) (ask : Ask) (reply : Reply) (old new : DeskPass K) (at : Moment) → reply ≡ replies.Refused at lacks.Worn → Answered desk ask reply old new → new.drawn ≡ 2 ^ 62
answered_worn desk ask reply old new at e (took t) = absurd (never-worn t.before t.after (event_of old.number ask) reply at t.step e)
answered_worn {K = K} desk ask reply old new at e (spent r n) = ap (λ (p : DeskPass K). p.drawn) n

-- where a look was answered Worn, all turns are drawn
pub looks_worn : {K : Type 0} (desk : DeskLock K) (reply : Reply) (old new : DeskPass K) (at : Moment) → reply ≡ replies.Refused at lacks.Worn → Looks desk reply old new → new.drawn ≡ 2 ^ 62
looks_worn desk reply old new at e (stepped fine same a) = answered_worn desk asks.Step reply old new at e a
looks_worn desk reply old new at e (gave_up _ between same a same' b) = answered_worn desk asks.Abandon reply between new at e b

-- What is known of a pass through which a server's changes were tended.
use Rattle.std.proofs.Common.{◌≡◌, ℕ, [], refl}
use Rattle.std.proofs.lemmas.Bool.{false≢true}
use Rattle.base_core.specs.declared.name.User.{User}
use Rattle.reader_core.specs.declared.statement.Statement.TheVariants as statements
use Rattle.system_core.specs.declared.machine.event.Event.TheVariants as events
use Rattle.system_core.specs.declared.machine.event.Reply.{Reply}
use Rattle.system_core.specs.declared.machine.event.Reply.TheVariants as replies
use Rattle.system_core.specs.World.{World}
use Rattle.system_core.specs.Step.{Step}
use Rattle.system_core.specs.Entering.{entered}
use Rattle.journal_core.proofs.Entering.{done_is_change}
use Rattle.desk_core.specs.Guarded.{DeskLock, DeskPass}
use Rattle.turnstile.specs.Passes.{IsSamePass}
use Rattle.desk_core.specs.Turns.{Answered, took, spent}
use Rattle.session_core.specs.Gains.{Watches}
use Rattle.session_core.specs.Tending.{Tends, untended, looked, began, checkpoint_of}
use Rattle.session_core.proofs.Growing.{Watches-refl, Watches-trans, took_watches, spent_watches}

-- a CHECKPOINT is never entered
none_entered : (old new : World) (pass : ℕ) (user : User) (reply : Reply) → Step old (events.Say pass user statements.Checkpoint) reply new → entered (events.Say pass user statements.Checkpoint) reply ≡ []
none_entered old new pass user (replies.Done at) step = absurd (false≢true (done_is_change old new (events.Say pass user statements.Checkpoint) (replies.Done at) refl step))
none_entered old new pass user (replies.Rows at rows) step = refl
none_entered old new pass user (replies.Listed at entries) step = refl
none_entered old new pass user (replies.Begun number at) step = refl
none_entered old new pass user (replies.Export ticket) step = refl
none_entered old new pass user (replies.Refused at lack) step = refl
none_entered old new pass user (replies.Denied at lack) step = refl
none_entered old new pass user (replies.Described at columns) step = refl
none_entered old new pass user replies.Idle step = refl
none_entered old new pass user (replies.Stepped number left) step = refl
none_entered old new pass user (replies.Finished number) step = refl
none_entered old new pass user (replies.Abandoned number) step = refl

checkpoint_watches : {K : Type 0} (desk : DeskLock K) (user : User) (reply : Reply) (old new : DeskPass K) → IsSamePass old new → Answered desk (checkpoint_of user) reply old new → Watches old new
checkpoint_watches desk user reply old new same (took t) =
    took_watches desk (checkpoint_of user) reply old new (none_entered t.before t.after old.number user reply t.step) same t
checkpoint_watches desk user reply old new same (spent r e) = spent_watches old new e

pub tends_watches : {K : Type 0} (desk : DeskLock K) (old new : DeskPass K) → Tends desk old new → Watches old new
tends_watches desk old _ untended = Watches-refl old
tends_watches desk old _ (looked between new before look) = Watches-trans old between new (tends_watches desk old between before) look
tends_watches desk old _ (began user reply between new before same answered) =
    Watches-trans old between new (tends_watches desk old between before) (checkpoint_watches desk user reply between new same answered)

pub Tends-trans : {K : Type 0} (desk : DeskLock K) (a b c : DeskPass K) → Tends desk a b → Tends desk b c → Tends desk a c
Tends-trans desk a b _ first untended = first
Tends-trans desk a b _ first (looked between new before look) = looked between new (Tends-trans desk a b between first before) look
Tends-trans desk a b _ first (began user reply between new before same answered) = began user reply between new (Tends-trans desk a b between first before) same answered

pub watches_tends : {K : Type 0} (desk : DeskLock K) (old new : DeskPass K) → Watches old new → Tends desk old new
watches_tends desk old new watches = looked old new untended watches

use Rattle.std.proofs.Common.{ℕ, Global, List, Option, Some, None, ◌++◌, ◌∷◌, [], subst, sym, ◌∙◌}
use Rattle.std.specs.Arc.{arc_value}
use Rattle.std.specs.declared.sync.Arc.{Arc}
use Rattle.capture_core.specs.Capturing.{InProgress, TellsProgress}
use Rattle.capture_core.specs.declared.image.Image.{Image}
use Rattle.capture_core.specs.declared.progress.Progress.TheVariants.{Done}
use Rattle.catalogue_core.specs.Kept.{last_eight}
use Rattle.system_core.specs.declared.machine.event.Reply.TheVariants.{Finished}
use Rattle.system_core.specs.World.{World}
use Rattle.system_core.specs.Step.{Advances}
use Rattle.system_core.specs.Standing.{LedgerState, Checkpointing, checkpointing, database_of, world_of, after_step}
use Rattle.system_core.proofs.Captured.{stands-due}
use Rattle.system_core.proofs.Holding.{IsDone, IsNumberOf, holds-done, number-told, advances-done}
use Rattle.system_core.proofs.machine.system.System.advance.Goals as goal

-- where a step tells the image, none is left
done-told : (k : ℕ) (o : Option InProgress) (arc : Arc Image Global) → TellsProgress k o (Done arc) → IsDone k o (arc_value arc)
done-told k None arc tells = tells
done-told k (Some a) arc tells = tells

pub invariant_of-self-in-Ok-Done : goal.invariant_of-self-in-Ok-Done
invariant_of-self-in-Ok-Done c =
    let s = c.self.inside in
    let old : Checkpointing = checkpointing s.capture s.ledger in
    let image : Image = arc_value c.in-Ok-Done.image in
    let done : IsDone s.chunk old.active image = done-told s.chunk old.active c.in-Ok-Done.image (rw c.in-Ok-Done.field-0-is at c.in-Ok-Done.ensures.tells) in
    rw c.add.ensures.kept
    (stands-due s.chunk s.ledger c.step.new.self c.step.new.capture (after_step s.chunk old) (last_eight (s.catalogue ++ image ∷ [])) c.step.ensures.same c.in-Ok-Done.ensures.ok
    (holds-done s.chunk s.chunk s.ledger old s.catalogue image done c.self.invariant.keeps) c.step.ensures.goes_on)

pub returns-in-Ok-Done : goal.returns-in-Ok-Done
returns-in-Ok-Done c =
    let s = c.self.inside in
    let old : Checkpointing = checkpointing s.capture s.ledger in
    let image : Image = arc_value c.in-Ok-Done.image in
    let done : IsDone s.chunk old.active image = done-told s.chunk old.active c.in-Ok-Done.image (rw c.in-Ok-Done.field-0-is at c.in-Ok-Done.ensures.tells) in
    let number : IsNumberOf c.in-Some.number old.active =
    number-told s.capture.active (database_of s.ledger) s.ledger.grants_due c.in-Some.number c.in-Some.field-0-1 c.in-Some.field-0-2 (sym c.active.ensures ∙ c.in-Some.is) in
    let To : LedgerState → Checkpointing → List Image → Type 0 = λ accepted checkpoints images. Advances c.args.self.now c.args.self.now.active (Finished c.in-Some.number) (world_of s.chunk accepted checkpoints images) in
    let reached : To s.ledger (after_step s.chunk old) (last_eight (s.catalogue ++ image ∷ [])) =
    subst (λ (w : World). Advances w w.active (Finished c.in-Some.number) (world_of s.chunk s.ledger (after_step s.chunk old) (last_eight (s.catalogue ++ image ∷ [])))) c.self.view_is
    (advances-done s.chunk s.ledger old s.catalogue image c.in-Some.number done number c.self.invariant.keeps) in
    subst (To c.step.new.self (checkpointing c.step.new.capture c.step.new.self)) (sym c.add.ensures.kept)
    (subst (λ (k : Checkpointing). To c.step.new.self k (last_eight (s.catalogue ++ image ∷ []))) (sym c.in-Ok-Done.ensures.ok)
    (subst (λ (l : LedgerState). To l (after_step s.chunk old) (last_eight (s.catalogue ++ image ∷ []))) (sym c.step.ensures.same) reached))

use Rattle.std.proofs.Common.{◌≡◌, ℕ, Ok, Err, sym, ap, subst, ◌∙◌}
use Rattle.monitor_core.proofs.Allowing.{passed-allowed, lack-allowed}
use Rattle.system_core.specs.Journal.{verdict_at}
use Rattle.system_core.specs.World.{World, moment_of}
use Rattle.system_core.specs.Judging.{verdict_of}
use Rattle.system_core.specs.Standing.{world_of, checkpointing}
use Rattle.system_core.proofs.Describing.{Denied, denied-first, denied-then}
use Rattle.system_core.proofs.machine.system.System.denial.Goals as goal

pub returns-in-Err : goal.returns-in-Err
returns-in-Err c =
    let w : World = world_of c.self.inside.chunk c.self.inside.ledger (checkpointing c.self.inside.capture c.self.inside.ledger) c.self.inside.catalogue in
    let lacks : verdict_at w.limits w.journal c.args.user.now c.args.statement.now ≡ Err c.in-Err.lack = lack-allowed _ c.args.statement.now c.in-Err.lack (sym c.judged.ensures ∙ c.in-Err.is) in
    let now : c.moment.result ≡ moment_of w = ap (λ (n : ℕ). record { 0 = n }) c.moment.ensures.moment in
    let At : World → Type 0 = λ v. Denied v c.args.statement.now (verdict_of v c.args.user.now c.args.statement.now) c.denial_by.result in
    subst At c.self.view_is (c.denial_by.ensures ∙ denied-first w c.args.user.now c.args.statement.now c.in-Err.lack c.moment.result lacks now)

pub checkpoint_denial-requires : goal.checkpoint_denial-requires
checkpoint_denial-requires c =
    subst (λ (w : World). verdict_at w.limits w.journal c.args.user.now c.args.statement.now ≡ Ok tt) c.self.view_is
    (passed-allowed _ c.args.statement.now c.in-Ok.field-0 (sym c.judged.ensures ∙ c.in-Ok.is))

pub returns-in-Ok : goal.returns-in-Ok
returns-in-Ok c =
    let passes = subst (λ (w : World). verdict_at w.limits w.journal c.args.user.now c.args.statement.now ≡ Ok tt) c.self.view_is
    (passed-allowed _ c.args.statement.now c.in-Ok.field-0 (sym c.judged.ensures ∙ c.in-Ok.is)) in
    denied-then c.args.self.now c.args.user.now c.args.statement.now c.checkpoint_denial.result passes c.checkpoint_denial.ensures

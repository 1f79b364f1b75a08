use Rattle.std.proofs.Common.{◌≡◌, ℕ, Ok, Err, refl, sym, ap, subst, ◌∙◌}
use Rattle.base_core.specs.declared.value.Moment.{Moment}
use Rattle.monitor_core.specs.Verdict.{Check}
use Rattle.monitor_core.proofs.Allowing.{passed-allowed, lack-allowed}
use Rattle.system_core.specs.Journal.{verdict_at}
use Rattle.system_core.specs.World.{World}
use Rattle.system_core.specs.Judging.{checkpoint_checks, verdict_of, judged_at}
use Rattle.system_core.specs.Step.{lack_reply, Responds}
use Rattle.system_core.specs.Standing.{world_of, checkpointing}
use Rattle.system_core.proofs.Judged.{failed-first, judged-now}
use Rattle.system_core.proofs.machine.system.System.refuse.Goals as goal

pub returns : goal.returns
returns c =
    let w : World = world_of c.self.inside.chunk c.self.inside.ledger (checkpointing c.self.inside.capture c.self.inside.ledger) c.self.inside.catalogue in
    let lacks : verdict_at w.limits w.journal c.args.entry.now.user c.args.entry.now.statement ≡ Err c.in-Err.lack = lack-allowed _ c.args.entry.now.statement c.in-Err.lack (sym c.judged.ensures ∙ c.in-Err.is) in
    let now : c.moment.result ≡ judged_at w c.args.entry.now.statement c.in-Err.lack = ap (λ (n : ℕ). record { 0 = n }) c.moment.ensures.moment ∙ sym (judged-now w c.args.entry.now.user c.args.entry.now.statement c.in-Err.lack lacks) in
    let failed : verdict_of w c.args.entry.now.user c.args.entry.now.statement ≡ Err c.in-Err.lack = failed-first (verdict_at w.limits w.journal c.args.entry.now.user c.args.entry.now.statement) (checkpoint_checks w c.args.entry.now.user c.args.entry.now.statement) c.in-Err.lack lacks in
    let By : Check → Type 0 = λ check. Responds w c.args.entry.now check c.lack_reply.result w in
    let At : World → Type 0 = λ v. Responds v c.args.entry.now (verdict_of v c.args.entry.now.user c.args.entry.now.statement) c.lack_reply.result v in
    subst At c.self.view_is (subst By (sym failed) (c.lack_reply.ensures ∙ ap (λ (m : Moment). lack_reply m c.in-Err.lack) now, refl))

pub unreachable-requires : goal.unreachable-requires
unreachable-requires c =
    let w : World = world_of c.self.inside.chunk c.self.inside.ledger (checkpointing c.self.inside.capture c.self.inside.ledger) c.self.inside.catalogue in
    let passes : verdict_at w.limits w.journal c.args.entry.now.user c.args.entry.now.statement ≡ Ok tt = passed-allowed _ c.args.entry.now.statement c.in-Ok.field-0 (sym c.judged.ensures ∙ c.in-Ok.is) in
    absurd (c.requires (subst (λ (v : World). verdict_at v.limits v.journal c.args.entry.now.user c.args.entry.now.statement ≡ Ok tt) c.self.view_is passes))

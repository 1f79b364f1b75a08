use Rattle.std.proofs.Common.{refl, sym, ◌∙◌}
use Rattle.std.proofs.lemmas.Bool.{false≢true}
use Rattle.load_core.specs.declared.fault.Undone.TheVariants as reasons
use Rattle.load_core.proofs.Entering.{refused}
use Rattle.stream_core.proofs.Entered.{stopped-here}
use Rattle.stream_core.proofs.streamer.Streamer.enter.Goals as goal

pub returns-then-not-may_change : goal.returns-then-not-may_change
returns-then-not-may_change c =
    let i = c.self.inside in
    let w = i.system in
    let reply = c.deny-reply.result in
    let change = sym c.is_change.ensures ∙ c.if-not-is_change.false in
    let undone = refused w c.args.entry reply (λ allowed. false≢true (sym c.if-not-may_change.true ∙ c.may_change.ensures.1 (allowed, change))) c.deny-reply.ensures change in
    stopped-here i.untold i.standings.items w i.stop i.from c.args.self.now c.self.view_is c.requires c.self.invariant c.args.entry (reasons.Answer reply) w c.stop_for-then-not-may_change.new.stop undone refl c.stop_for-then-not-may_change.ensures

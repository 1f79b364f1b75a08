use Rattle.std.proofs.Common.{sym, subst, ◌∙◌}
use Rattle.base_core.proofs.Fronts.{Both, WritesFrontOf-map, first-broken, write-map, write-then}
use Rattle.system_core.specs.declared.machine.event.Event.TheVariants as events
use Rattle.system_core.specs.World.{World}
use Rattle.system_core.specs.Step.{Step}
use Rattle.reply_core.specs.Telling.{TellsReply}
use Rattle.script_core.specs.Replying.{TellsSaid, TellsThen}
use Rattle.script_core.proofs.Answering.{said-alone, said-then, tells-some}
use Rattle.script_core.proofs.scripts.answer.tell.Goals as goal

pub returns-then-not-refused : goal.returns-then-not-refused
returns-then-not-refused g c =
    let old = c.args.system.now in
    let new = c.let_go.new.self in
    let reply = c.step-reply.result in
    let stepped : Step old events.Step reply new = subst (λ (w : World). Step old events.Step reply w) (sym c.let_go.ensures) c.step-reply.ensures in
    write-map g.W.Sink.failed g.W.Sink.taken _ _ (TellsSaid c.args.said) (TellsThen c.args.said old new) c.write_said.result
    (said-alone c.args.said old new reply stepped (sym c.is_refused-refused.ensures ∙ c.if-not-refused.true)) c.write_said.ensures

pub returns-in-Err : goal.returns-in-Err
returns-in-Err g c =
    let mid = c.step-reply.new.self in
    let new = c.let_go-2.new.self in
    let given_up = c.step-given_up.result in
    let came : Step mid events.Abandon given_up new = subst (λ (w : World). Step mid events.Abandon given_up w) (sym c.let_go-2.ensures) c.step-given_up.ensures in
    let more = tells-some given_up in
    let then = said-then c.args.said c.args.system.now mid new c.step-reply.result given_up c.step-reply.ensures (sym c.is_refused-refused.ensures ∙ c.if-not-refused.false) came in
    let r = c.in-Err.ensures in (
      r.0,
      WritesFrontOf-map (Both (TellsSaid c.args.said) (TellsReply given_up)) (TellsThen c.args.said c.args.system.now new) _ _ then
          (first-broken (TellsSaid c.args.said) (TellsReply given_up) (g.W.Sink.taken c.args.writer.now) (g.W.Sink.taken c.write_said-2.new.writer) more.0 more.1 r.1),
    )

pub returns-in-Ok : goal.returns-in-Ok
returns-in-Ok g c =
    let mid = c.step-reply.new.self in
    let new = c.let_go-2.new.self in
    let given_up = c.step-given_up.result in
    let came : Step mid events.Abandon given_up new = subst (λ (w : World). Step mid events.Abandon given_up w) (sym c.let_go-2.ensures) c.step-given_up.ensures in
    let then = said-then c.args.said c.args.system.now mid new c.step-reply.result given_up c.step-reply.ensures (sym c.is_refused-refused.ensures ∙ c.if-not-refused.false) came in
    write-map g.W.Sink.failed g.W.Sink.taken _ _ (Both (TellsSaid c.args.said) (TellsReply given_up)) (TellsThen c.args.said c.args.system.now new) c.write_reply.result then
    (write-then g.W.Sink.failed g.W.Sink.taken _ _ _ (TellsSaid c.args.said) (TellsReply given_up) c.write_reply.result c.in-Ok.ensures.1 c.write_reply.ensures)

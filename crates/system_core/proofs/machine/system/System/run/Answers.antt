use Rattle.std.proofs.Common.{[], ◌∷◌, ◌++◌, sym, ap, ◌∙◌, append_assoc}
use Rattle.system_core.proofs.Running.{Run-more}
use Rattle.system_core.proofs.machine.system.System.run.Goals as goal

pub loop-event-preserved : goal.loop-event-preserved
loop-event-preserved c = record {
  split = c.loop-event.invariant.split ∙ ap (λ k. c.loop-event.yielded ++ k) c.in-Some.ensures.steps.0 ∙ sym (append_assoc c.loop-event.yielded (c.in-Some.event ∷ []) c.next.new.self.rest.items);
  run = rw (c.push_reserved.ensures.items, c.in_default.ensures.items) (Run-more c.args.self.now c.loop-event.self c.step.new.self c.loop-event.yielded c.loop-event.replies.items c.in-Some.event c.step.result c.loop-event.invariant.run c.step.ensures);
}

pub returns-in-Err : goal.returns-in-Err
returns-in-Err c = rw c.reserve.ensures.items (c.loop-event.yielded, c.loop-event.event-iterator.rest.items, c.loop-event.invariant.split, c.loop-event.invariant.run)

use Rattle.std.proofs.Common.{◌≡◌, ◌++◌}
use Rattle.system_core.specs.Step.{Run}
use Rattle.system_core.proofs.machine.system.System.run.Given as goal

-- the events so far were done, and the others are left
abbrev pub invariant-loop-event : goal.invariant-loop-event
invariant-loop-event l = record {
  split : l.fn.events.items ≡ l.yielded ++ l.event-iterator.rest.items;
  run : Run l.fn.self l.yielded l.replies.items l.self;
}

use Rattle.std.proofs.Common.{sym, ◌∙◌}
use Rattle.messages_core.specs.Reading.{value_or_null_at}
use Rattle.messages_core.proofs.Skips.{past_one}
use Rattle.messages_core.proofs.lists.past_values.Goals as goal

pub loop-preserved : goal.loop-preserved
loop-preserved c =
    sym (past_one value_or_null_at c.args.count c.loop.counter c.loop.rest.now _ c.in_ok-behind.behind.now
    c.loop-test.true (sym c.in_ok-behind.ensures)) ∙ c.loop.invariant

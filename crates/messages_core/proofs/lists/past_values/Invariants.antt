use Rattle.std.proofs.Common.{◌≡◌, ◌-◌}
use Rattle.messages_core.specs.Reading.{past_items, value_or_null_at}
use Rattle.messages_core.proofs.lists.past_values.Given as goal

abbrev pub invariant-loop : goal.invariant-loop
invariant-loop l = past_items value_or_null_at (l.count - l.counter) l.rest ≡ past_items value_or_null_at l.count l.bytes

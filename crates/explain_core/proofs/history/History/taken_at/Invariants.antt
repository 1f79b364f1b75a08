use Rattle.std.proofs.Common.{◌≡◌, filter, take}
use Rattle.explain_core.specs.Falls.{is_taken_at}
use Rattle.explain_core.proofs.history.History.taken_at.Given as goal

abbrev pub invariant-loop-life : goal.invariant-loop-life
invariant-loop-life l = l.taken.items ≡ filter (is_taken_at l.at) (take l.life-index l.life-items)

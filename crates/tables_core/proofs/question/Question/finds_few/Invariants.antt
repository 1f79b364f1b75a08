use Rattle.std.proofs.Common.{◌≤◌}
use Rattle.tables_core.proofs.question.Question.finds_few.Given as goal

abbrev pub invariant-loop-seen : goal.invariant-loop-seen
invariant-loop-seen l = l.found ≤ l.seen

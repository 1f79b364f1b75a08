use Rattle.std.proofs.Common.{◌≤◌, ◌+◌, ℕ, length}
use Rattle.conversation_core.specs.Querying.{HasStatements}
use Rattle.conversation_core.proofs.querying.count_statements.Given as goal

abbrev pub invariant-statements : goal.invariant-statements
invariant-statements l = record {
  short : l.count + length l.left ≤ length l.text;
  counts : (n : ℕ) → HasStatements l.left n → HasStatements l.text (l.count + n);
}

abbrev pub decreases-statements : goal.decreases-statements
decreases-statements l = length l.left

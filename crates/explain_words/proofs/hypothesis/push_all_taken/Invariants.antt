use Rattle.std.proofs.Common.{length}
use Rattle.explain_words.proofs.hypothesis.push_all_taken.Given as goal

abbrev pub decreases-loop-rest : goal.decreases-loop-rest
decreases-loop-rest l = length l.rest

use Rattle.std.proofs.Common.{arith}
use Rattle.std.proofs.lemmas.Grind.{common_steps}
use Rattle.explain_core.proofs.alternative.push_alternatives.Goals as goal

pub loop-life-preserved : goal.loop-life-preserved
loop-life-preserved c = grind (arith, common_steps)

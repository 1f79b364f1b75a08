use Rattle.std.proofs.Common.{ap, ◌∙◌, Err, subst}
use Rattle.system_core.specs.World.{entry}
use Rattle.system_core.specs.Step.{Responds}
use Rattle.system_core.proofs.Judged.{verdict_of-not_NoMemory}
use Rattle.system_core.proofs.laws.lacks_are_answered.Goals as goal

pub returns : goal.returns
returns c = record {
  answered = λ old new pass user asked lack reply is step. subst (λ verdict. Responds old (entry pass user asked) verdict reply new) is step;
  memory = λ old user asked lack is same. verdict_of-not_NoMemory old user asked (is ∙ ap (λ l. Err l) same);
}

use Rattle.checkpoint_core.proofs.Allowing.{image_may_be_put}
use Rattle.checkpoint_core.proofs.laws.image_may_be_put.Goals as goal

pub returns : goal.returns
returns g c = image_may_be_put g.W.Errands.may_run g.W.Errands.knows

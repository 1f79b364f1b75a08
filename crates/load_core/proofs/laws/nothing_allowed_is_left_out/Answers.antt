use Rattle.load_core.proofs.PassedOver.{not_entered}
use Rattle.load_core.proofs.laws.nothing_allowed_is_left_out.Goals as goal

pub returns : goal.returns
returns c = not_entered

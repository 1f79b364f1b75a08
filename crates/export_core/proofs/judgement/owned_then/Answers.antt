use Rattle.capture_core.specs.Image.{owns_in_image}
use Rattle.export_core.proofs.judgement.owned_then.Goals as goal

pub returns : goal.returns
unfolding owns_in_image
returns c = λ kind. c.owns.ensures

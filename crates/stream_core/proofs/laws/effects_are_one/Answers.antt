use Rattle.stream_core.proofs.OneList.{effects-are-one}
use Rattle.stream_core.proofs.laws.effects_are_one.Goals as goal

pub returns : goal.returns
returns c = effects-are-one

use Rattle.dump_core.proofs.Imaged.{image_is_dumped}
use Rattle.dump_core.proofs.laws.image_is_dumped.Goals as goal

pub returns : goal.returns
returns c = image_is_dumped

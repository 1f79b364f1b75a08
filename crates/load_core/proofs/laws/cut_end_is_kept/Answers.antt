use Rattle.load_core.proofs.CutEnd.{cut_end}
use Rattle.load_core.proofs.laws.cut_end_is_kept.Goals as goal

pub returns : goal.returns
returns c = cut_end

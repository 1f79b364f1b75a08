use Rattle.grants_core.proofs.ValidLemmas.{valid-of_part}
use Rattle.grants_core.proofs.laws.valid_of_a_part.Goals as goal

pub returns : goal.returns
returns c = valid-of_part

use Rattle.grants_core.proofs.ValidLemmas.{valid-filter_valid}
use Rattle.grants_core.proofs.laws.valid_of_the_valid.Goals as goal

pub returns : goal.returns
returns c = valid-filter_valid

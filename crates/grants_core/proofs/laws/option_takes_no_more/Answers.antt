use Rattle.grants_core.proofs.StayLemmas.{option-no_more}
use Rattle.grants_core.proofs.laws.option_takes_no_more.Goals as goal

pub returns : goal.returns
returns c = option-no_more

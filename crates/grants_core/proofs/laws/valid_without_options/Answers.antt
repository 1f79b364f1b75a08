use Rattle.grants_core.proofs.OptionLemmas.{valid-options_off}
use Rattle.grants_core.proofs.laws.valid_without_options.Goals as goal

pub returns : goal.returns
returns c = valid-options_off

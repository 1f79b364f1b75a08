use Rattle.grants_core.proofs.ValidLemmas.{valid-of_supported}
use Rattle.grants_core.proofs.laws.supported_is_valid.Goals as goal

pub returns : goal.returns
returns c = valid-of_supported

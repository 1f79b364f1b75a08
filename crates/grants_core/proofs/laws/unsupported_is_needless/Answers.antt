use Rattle.grants_core.proofs.ValidLemmas.{valid-remove_unsupported}
use Rattle.grants_core.proofs.laws.unsupported_is_needless.Goals as goal

pub returns : goal.returns
returns c = valid-remove_unsupported

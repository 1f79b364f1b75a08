use Rattle.explain_core.proofs.PartsLemmas.{revoked_in_parts}
use Rattle.explain_core.proofs.laws.revocation_in_parts.Goals as goal

pub returns : goal.returns
returns c = λ cs by atoms some others. revoked_in_parts cs by atoms some others

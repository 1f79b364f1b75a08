use Rattle.explain_core.proofs.FallLaw.{all-fall_by_revocations}
use Rattle.explain_core.proofs.laws.grants_fall_by_revocations.Goals as goal

pub returns : goal.returns
returns c = all-fall_by_revocations

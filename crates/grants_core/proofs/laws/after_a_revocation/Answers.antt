use Rattle.grants_core.proofs.HistoryLemmas.{content-revoke}
use Rattle.grants_core.proofs.laws.after_a_revocation.Goals as goal

pub returns : goal.returns
returns c = content-revoke

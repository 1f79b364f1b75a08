use Rattle.grants_core.proofs.HistoryLemmas.{content-grant}
use Rattle.grants_core.proofs.laws.after_a_grant.Goals as goal

pub returns : goal.returns
returns c = content-grant

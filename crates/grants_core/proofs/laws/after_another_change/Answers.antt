use Rattle.grants_core.proofs.HistoryLemmas.{content-other}
use Rattle.grants_core.proofs.laws.after_another_change.Goals as goal

pub returns : goal.returns
returns c = content-other

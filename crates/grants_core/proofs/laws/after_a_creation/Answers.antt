use Rattle.grants_core.proofs.HistoryLemmas.{content-create}
use Rattle.grants_core.proofs.laws.after_a_creation.Goals as goal

pub returns : goal.returns
returns c = content-create

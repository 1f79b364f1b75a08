use Rattle.grants_core.proofs.HistoryLemmas.{content-revoke_option}
use Rattle.grants_core.proofs.laws.after_an_option_revocation.Goals as goal

pub returns : goal.returns
returns c = content-revoke_option

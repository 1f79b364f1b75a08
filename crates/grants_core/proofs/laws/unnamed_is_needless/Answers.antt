use Rattle.grants_core.proofs.HistoryLemmas.{revoke-named, revoke-unnamed}
use Rattle.grants_core.proofs.laws.unnamed_is_needless.Goals as goal

pub returns : goal.returns
returns c = λ changes by atoms whom. (revoke-named changes by atoms whom, revoke-unnamed changes by atoms whom)

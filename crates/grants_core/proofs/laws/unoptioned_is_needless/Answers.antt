use Rattle.grants_core.proofs.HistoryLemmas.{revoke_option-named, revoke_option-unnamed}
use Rattle.grants_core.proofs.laws.unoptioned_is_needless.Goals as goal

pub returns : goal.returns
returns c = λ changes by atoms whom. (revoke_option-named changes by atoms whom, revoke_option-unnamed changes by atoms whom)

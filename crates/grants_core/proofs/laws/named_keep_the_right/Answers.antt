use Rattle.grants_core.proofs.StayLemmas.{stay-by, stay-named, stay-holds}
use Rattle.grants_core.proofs.laws.named_keep_the_right.Goals as goal

pub returns : goal.returns
returns c = record {
  stay = stay-by;
  named = stay-named;
  holds = stay-holds;
}

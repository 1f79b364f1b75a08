use Rattle.grants_core.specs.History.{owners_after, left_after}
use Rattle.grants_core.proofs.ValidLemmas.{valid-supported}
use Rattle.grants_core.proofs.laws.valid_is_supported.Goals as goal

pub returns : goal.returns
returns c = record {
  valid = valid-supported;
  in_force = λ changes. valid-supported (owners_after changes) (left_after changes);
}

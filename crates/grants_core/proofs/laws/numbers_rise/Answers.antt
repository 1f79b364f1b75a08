use Rattle.grants_core.proofs.NumberLemmas.{numbers-granted, IsNumbered-in_force}
use Rattle.grants_core.proofs.laws.numbers_rise.Goals as goal

pub returns : goal.returns
returns c = record {
  granted = numbers-granted;
  in_force = IsNumbered-in_force;
}

use Rattle.parameters_core.proofs.FilledLines.{says_split, says_joined}
use Rattle.parameters_core.proofs.laws.places_say_literals.Goals as goal

pub returns : goal.returns
returns c = record {
  split = λ text last values parts said a proper s. says_split text last values parts said a proper s;
  joined = λ text last values parts said a proper h s. says_joined text last values parts said a proper h s;
}

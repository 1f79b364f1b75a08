use Rattle.binding_core.proofs.Sourced.{stands_somewhere}
use Rattle.binding_core.proofs.laws.places_stand_somewhere.Goals as goal

pub returns : goal.returns
returns c = λ text last ns ms ones twos front behind part from pn pm wn wm a other. stands_somewhere text ns ms ones twos from pn pm wn wm front part behind last a other

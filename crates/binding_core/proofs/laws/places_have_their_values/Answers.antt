use Rattle.binding_core.proofs.Sourced.{there_is_value}
use Rattle.binding_core.proofs.laws.places_have_their_values.Goals as goal

pub returns : goal.returns
returns c = λ text ns ms vs ones twos s number index from pn pm pv wn wm wv stands. there_is_value text ns ms ones twos from pn pm wn wm vs s number index pv wv stands

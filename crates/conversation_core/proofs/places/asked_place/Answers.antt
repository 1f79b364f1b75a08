use Rattle.conversation_core.proofs.FaultPlaces.{unplaced}
use Rattle.conversation_core.proofs.places.asked_place.Goals as goal

pub returns-in_default : goal.returns-in_default
returns-in_default c = unplaced c.args.text.now c.args.start c.args.statement.now c.args.asked.now (λ code offset is. c.in_default.not-Faulty code offset is)

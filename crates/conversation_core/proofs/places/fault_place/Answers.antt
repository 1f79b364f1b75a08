use Rattle.std.proofs.Common.{ℕ, Some, sym, subst}
use Rattle.conversation_core.specs.Telling.{IsFaultPlace}
use Rattle.conversation_core.proofs.places.fault_place.Goals as goal

pub returns : goal.returns
returns c =
    subst (λ (n : ℕ). IsFaultPlace c.args.text.now c.args.start c.args.statement.now c.args.offset (Some n)) (sym c.character.ensures)
    (IsFaultPlace.here c.position-byte.ensures.origin)

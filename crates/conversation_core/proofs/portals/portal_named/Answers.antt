use Rattle.conversation_core.proofs.Naming.{named_at}
use Rattle.conversation_core.proofs.portals.portal_named.Goals as goal

pub returns : goal.returns
returns c =
    named_at c.args.name.now c.args.portals.now c.in_ok-place.place c.index-portals-place.result c.as_ref.result
    c.in_ok-place.ensures.place c.in_ok-place.ensures.within c.index-portals-place.is c.as_ref.ensures.value

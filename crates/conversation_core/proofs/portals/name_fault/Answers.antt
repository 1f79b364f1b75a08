use Rattle.std.proofs.Common.{ℕ, ◌≤◌, sym, subst, ◌∙◌}
use Rattle.conversation_core.specs.Extending.IsPortalNameFault.{full, taken}
use Rattle.conversation_core.specs.State.{portal_place}
use Rattle.conversation_core.specs.declared.portals.TheConstants.{MOST_PORTALS}
use Rattle.conversation_core.proofs.Naming.{none_told, some_told}
use Rattle.conversation_core.proofs.portals.name_fault.Goals as goal

pub returns-then-is_some : goal.returns-then-is_some
returns-then-is_some c =
    taken (sym c.is_unnamed.ensures ∙ c.if-is_unnamed.false)
    (some_told c.portal_place.result (portal_place c.args.name.now c.args.portals.now) c.portal_place.ensures.place (sym c.is_some.ensures ∙ c.if-is_some.true))

pub returns-then-portal_count-ge-MOST_PORTALS : goal.returns-then-portal_count-ge-MOST_PORTALS
returns-then-portal_count-ge-MOST_PORTALS c =
    full (sym c.is_unnamed.ensures ∙ c.if-is_unnamed.false)
    (none_told c.portal_place.result (portal_place c.args.name.now c.args.portals.now) c.portal_place.ensures.place (sym c.is_some.ensures ∙ c.if-is_some.false))
    (subst (λ (n : ℕ). MOST_PORTALS ≤ n) c.portal_count.ensures c.if-portal_count-ge-MOST_PORTALS.true)

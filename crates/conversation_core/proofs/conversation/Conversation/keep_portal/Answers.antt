use Rattle.std.proofs.Common.{◌≡◌, List, ℕ, None, sym, subst}
use Rattle.conversation_core.specs.Portals.{KeepsPortal, StandsIn, added, put}
use Rattle.conversation_core.specs.State.{ConversationState, portal_place}
use Rattle.conversation_core.proofs.Naming.{on_ok}
use Rattle.conversation_core.proofs.conversation.Conversation.keep_portal.Goals as goal

pub returns-in-Some-clause-ok : goal.returns-in-Some-clause-ok
returns-in-Some-clause-ok c =
    subst (λ (s : ConversationState). KeepsPortal c.args.portal c.args.self.now.state s) (sym c.put_portal.ensures.state)
    (put (subst (λ (n : List ℕ). StandsIn n c.args.self.now.state.portals c.in-Some.place) c.as_slice.ensures c.in-Some.ensures.1))

pub returns-in-None-clause-ok : goal.returns-in-None-clause-ok
returns-in-None-clause-ok c =
    let unused = subst (λ (n : List ℕ). portal_place n c.args.self.now.state.portals ≡ None) c.as_slice.ensures c.in-None.ensures.0 in
    on_ok c.add_portal.result
    (λ stands. subst (λ (s : ConversationState). KeepsPortal c.args.portal c.args.self.now.state s) (sym stands) (added unused c.in-None.ensures.1))
    c.add_portal.ensures.ok

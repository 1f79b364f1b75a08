use Rattle.std.proofs.Common.{◌≡◌, ◌++◌, [], ◌∷◌, List, ℕ, Option, Some, None, false, sym, ap, subst, ◌∙◌}
use Rattle.std.specs.Prelude.{slice_get, slice_set}
use Rattle.answer_core.specs.declared.unsent.Portal.{Portal as RowsLeft}
use Rattle.answer_core.specs.declared.unsent.Unsent.{Unsent}
use Rattle.sending_core.specs.Owing.{Lefts}
use Rattle.sending_core.specs.declared.item.Item.{Item}
use Rattle.sending_core.specs.declared.item.Item.TheVariants as items
use Rattle.sending_core.specs.declared.problem.Problem.TheVariants as problems
use Rattle.conversation_core.specs.Extending.{AsksPortal, most_rows}
use Rattle.conversation_core.specs.Extending.ExecutesPortal.{done, fresh, resumed}
use Rattle.conversation_core.specs.Portals.{with_portal}
use Rattle.conversation_core.specs.State.{ConversationState, behind_problem}
use Rattle.conversation_core.specs.Telling.{error}
use Rattle.conversation_core.specs.declared.portals.Bound.{Bound}
use Rattle.conversation_core.proofs.AddedAnswers.{adds_as, adds_behind}
use Rattle.conversation_core.proofs.Asides.{asks_there}
use Rattle.conversation_core.proofs.SetPlaces.{set_same, some_once}
use Rattle.conversation_core.proofs.conversation.Conversation.execute_at.Goals as goal

pub returns-in-Some-clause-adds : goal.returns-in-Some-clause-adds
returns-in-Some-clause-adds g c = λ portal there.
    let old = c.args.self.now in
    let left : Option RowsLeft → ConversationState = λ o. record (old.state) { lefts = slice_set old.state.lefts c.args.place o } in
    let rest : Unsent → List Item = λ u. items.Rest u (Some c.args.place) ∷ [] in
    let unsent : Unsent = record { portal = c.in-Some.left; most = most_rows c.args.most } in
    let same : c.resume.result ≡ unsent
    = ap (λ (p : RowsLeft). record { portal = p; most = c.resume.result.most }) c.resume.ensures.portal
    ∙ ap (λ (m : Option ℕ). record { portal = c.in-Some.left; most = m }) (c.resume.ensures.most ∙ c.most_rows.ensures) in
    adds_behind old c.respond.new.self _ (rest unsent) (left None) c.take_left.new.self
    c.in-Some.ensures.sending (c.respond.ensures.items ∙ ap (λ (u : Unsent). c.take_left.new.self.sending.items ++ rest u) same) c.respond.ensures.capacity
    (c.respond.ensures.state ∙ c.in-Some.ensures.state) (resumed c.in-Some.ensures.left)

pub returns-in-Some-take_fresh-clause-adds : goal.returns-in-Some-take_fresh-clause-adds
returns-in-Some-take_fresh-clause-adds g c = λ portal there.
    let old = c.args.self.now in
    let place = c.args.place in
    let user = c.args.user in
    let desk = c.args.lent.now.desk.now in
    let before = c.args.pass.now in
    let after = c.execute_fresh.new.pass in
    let taken = c.in-Some-take_fresh.portal in
    let none_left : c.take_left.new.self.state ≡ old.state
    = c.in_default.ensures.state ∙ ap (λ (ls : Lefts). record (old.state) { lefts = ls }) (set_same old.state.lefts place None c.in_default.ensures.left) in
    let aside : c.take_fresh.new.self.state ≡ with_portal place None old.state
    = c.in-Some-take_fresh.ensures.fresh.2 ∙ ap (λ (s : ConversationState). with_portal place None s) none_left in
    let same : taken ≡ portal
    = some_once taken portal (some_once (Some taken) (Some portal)
    (sym c.in-Some-take_fresh.ensures.fresh.1 ∙ (ap (λ (s : ConversationState). slice_get s.portals place) none_left ∙ there))) in
    adds_as old c.take_fresh.new.self c.execute_fresh.new.self _ _ (c.in-Some-take_fresh.ensures.sending ∙ c.in_default.ensures.sending)
    (λ answer new asks. fresh c.in_default.ensures.left (subst (λ (p : Bound). p.was_executed ≡ false) same c.in-Some-take_fresh.ensures.fresh.0)
    (asks_there desk user c.args.most place portal before old.state
    (subst (λ (s : ConversationState). AsksPortal desk user c.args.most place portal s before answer new after) aside
    (subst (λ (p : Bound). AsksPortal desk user c.args.most place p c.take_fresh.new.self.state before answer new after) same asks))))
    c.execute_fresh.ensures.adds

pub returns-in-None-clause-adds : goal.returns-in-None-clause-adds
returns-in-None-clause-adds g c = λ portal there.
    let old = c.args.self.now in
    let place = c.args.place in
    let none_left : c.take_left.new.self.state ≡ old.state
    = c.in_default.ensures.state ∙ ap (λ (ls : Lefts). record (old.state) { lefts = ls }) (set_same old.state.lefts place None c.in_default.ensures.left) in
    let was = c.in-None.ensures.done.1 portal (ap (λ (s : ConversationState). slice_get s.portals place) none_left ∙ there) in
    adds_behind old c.refuse.new.self _ (error problems.PortalDone) (behind_problem old.state) c.take_fresh.new.self
    (c.in-None.ensures.sending ∙ c.in_default.ensures.sending) c.refuse.ensures.items c.refuse.ensures.capacity
    (c.refuse.ensures.state ∙ ap behind_problem (c.in-None.ensures.done.0 ∙ none_left)) (done c.in_default.ensures.left was)

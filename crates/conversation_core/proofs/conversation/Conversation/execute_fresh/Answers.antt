use Rattle.std.proofs.Common.{◌≡◌, true, false, List, ℕ, Some, sym, ap, subst, ◌∙◌}
use Rattle.parameters_core.specs.Statements.{is_empty_statement}
use Rattle.sending_core.specs.declared.plain.Plain.TheVariants as plains
use Rattle.conversation_core.specs.Extending.{behind_execute, execute_manner, executed}
use Rattle.conversation_core.specs.Extending.AsksPortal.{silent}
use Rattle.conversation_core.specs.Portals.{with_portal}
use Rattle.conversation_core.specs.State.{Conversing, behind_problem}
use Rattle.conversation_core.specs.Telling.{plain}
use Rattle.conversation_core.proofs.AddedAnswers.{adds_behind, adds_on}
use Rattle.conversation_core.proofs.Asides.{asks_aside, telling_is}
use Rattle.conversation_core.proofs.conversation.Conversation.execute_fresh.Goals as goal

pub returns-then-is_empty_statement-clause-adds : goal.returns-then-is_empty_statement-clause-adds
returns-then-is_empty_statement-clause-adds g c =
    let old = c.args.self.now in
    let none = subst (λ (l : List ℕ). is_empty_statement l ≡ true) c.as_slice-line.ensures (sym c.is_empty_statement.ensures ∙ c.if-is_empty_statement.true) in
    adds_behind old c.send.new.self _ (plain plains.EmptyQuery) (with_portal c.args.place (Some (executed c.args.portal)) old.state) c.put_back.new.self
    c.put_back.ensures.sending c.send.ensures.items c.send.ensures.capacity (c.send.ensures.state ∙ c.put_back.ensures.state) (silent none)

pub returns-then-not-is_well-clause-adds : goal.returns-then-not-is_well-clause-adds
returns-then-not-is_well-clause-adds g c =
    let old = c.args.self.now in
    let portal = c.args.portal in
    let place = c.args.place in
    let told = c.tell_asked-is_well.new.self in
    let behind : c.skip.new.self.state ≡ behind_problem (with_portal place (Some (executed portal)) told.state)
    = c.skip.ensures.state ∙ ap behind_problem c.put_back-2.ensures.state in
    let manner = c.execute_manner-manner.ensures ∙ ap (λ (v : Conversing). execute_manner v.state.block) c.self.view_is in
    let says = sym c.is_empty_statement.ensures ∙ c.if-is_empty_statement.false in
    let telling = telling_is c.twin_of.result c.most_rows.result portal c.args.most place c.twin_of.ensures c.most_rows.ensures in
    adds_on old told c.skip.new.self _ _ (behind_execute false (with_portal place (Some (executed portal)) told.state))
    (c.skip.ensures.sending ∙ c.put_back-2.ensures.sending) behind
    (λ answer answers. asks_aside c.args.lent.now.desk.now c.args.user c.args.most place portal c.args.pass.now c.ask-asked.new.pass old.state told.state _ _ _ c.ask-asked.result answer false
    manner c.as_slice-line.ensures telling says c.ask-asked.ensures.asks answers)
    c.if-not-is_well.ensures.adds

pub returns-else-not-is_well-clause-adds : goal.returns-else-not-is_well-clause-adds
returns-else-not-is_well-clause-adds g c =
    let old = c.args.self.now in
    let portal = c.args.portal in
    let place = c.args.place in
    let told = c.tell_asked-is_well.new.self in
    let manner = c.execute_manner-manner.ensures ∙ ap (λ (v : Conversing). execute_manner v.state.block) c.self.view_is in
    let says = sym c.is_empty_statement.ensures ∙ c.if-is_empty_statement.false in
    let telling = telling_is c.twin_of.result c.most_rows.result portal c.args.most place c.twin_of.ensures c.most_rows.ensures in
    adds_on old told c.put_back-2.new.self _ _ (behind_execute true (with_portal place (Some (executed portal)) told.state))
    c.put_back-2.ensures.sending c.put_back-2.ensures.state
    (λ answer answers. asks_aside c.args.lent.now.desk.now c.args.user c.args.most place portal c.args.pass.now c.ask-asked.new.pass old.state told.state _ _ _ c.ask-asked.result answer true
    manner c.as_slice-line.ensures telling says c.ask-asked.ensures.asks answers)
    c.if-not-is_well.ensures.adds

use Rattle.std.proofs.Common.{◌++◌, [], List, ℕ, refl, sym, ap, subst, ◌∙◌, append-nil}
use Rattle.messages_core.specs.declared.client.ClientMessage.{ClientMessage}
use Rattle.messages_core.specs.declared.client.ClientMessage.TheVariants as clients
use Rattle.messages_core.specs.declared.client.Target.{Target}
use Rattle.sending_core.specs.Queue.{Queue, capacity}
use Rattle.sending_core.specs.declared.item.Item.{Item}
use Rattle.sending_core.specs.declared.plain.Plain.TheVariants as plains
use Rattle.sending_core.specs.declared.problem.Problem.TheVariants as problems
use Rattle.conversation_core.specs.Extending.{AnswersExecute, AnswersPortalDescribe, AnswersStatementDescribe}
use Rattle.conversation_core.specs.Messages.{Answers, behind_sync, bound, executed, flushed, not_expected, parsed, portal_closed, portal_described, queried, statement_closed, statement_described, synced, terminated}
use Rattle.conversation_core.specs.Querying.{AnswersQuery}
use Rattle.conversation_core.specs.State.{ConversationState, closed_at, ended, portal_place, without_statement}
use Rattle.conversation_core.specs.Telling.{fatal_error, plain}
use Rattle.conversation_core.proofs.AddedAnswers.{adds, adds_as}
use Rattle.conversation_core.proofs.conversation.Conversation.hear.Goals as goal

pub returns-in-Query-clause-adds : goal.returns-in-Query-clause-adds
returns-in-Query-clause-adds g c =
    let old = c.args.self.now in
    adds_as old old c.query.new.self _ _ refl
    (λ answer new is. subst (λ (m : ClientMessage). Answers c.args.lent.now.desk.now c.args.user old.state c.args.pass.now m answer new c.query.new.pass) (sym c.in-Query.is)
    (queried (subst (λ (t : List ℕ). AnswersQuery c.args.lent.now.desk.now c.args.user t old.state c.args.pass.now answer new c.query.new.pass) c.as_slice.ensures is)))
    c.query.ensures.adds

pub returns-in-Parse-clause-adds : goal.returns-in-Parse-clause-adds
returns-in-Parse-clause-adds g c =
    let old = c.args.self.now in
    adds_as old old c.parse.new.self _ _ refl
    (λ answer new is. subst (λ (m : ClientMessage). Answers c.args.lent.now.desk.now c.args.user old.state c.args.pass.now m answer new c.parse.new.pass) (sym c.in-Parse.is) (parsed is))
    c.parse.ensures.adds

pub returns-in-Bind-clause-adds : goal.returns-in-Bind-clause-adds
returns-in-Bind-clause-adds g c =
    let old = c.args.self.now in
    adds_as old old c.bind.new.self _ _ refl
    (λ answer new is. subst (λ (m : ClientMessage). Answers c.args.lent.now.desk.now c.args.user old.state c.args.pass.now m answer new c.args.pass.now) (sym c.in-Bind.is) (bound is))
    c.bind.ensures

pub returns-in-Portal-clause-adds : goal.returns-in-Portal-clause-adds
returns-in-Portal-clause-adds g c =
    let old = c.args.self.now in
    let message = c.in-Describe.is ∙ ap (λ (t : Target). clients.Describe t c.in-Describe.name) c.in-Portal.is in
    adds_as old old c.describe_portal.new.self _ _ refl
    (λ answer new is. subst (λ (m : ClientMessage). Answers c.args.lent.now.desk.now c.args.user old.state c.args.pass.now m answer new c.describe_portal.new.pass) (sym message)
    (portal_described (subst (λ (n : List ℕ). AnswersPortalDescribe c.args.lent.now.desk.now c.args.user n old.state c.args.pass.now answer new c.describe_portal.new.pass) c.as_slice-in-Portal.ensures is)))
    c.describe_portal.ensures.adds

pub returns-in-Statement-clause-adds : goal.returns-in-Statement-clause-adds
returns-in-Statement-clause-adds g c =
    let old = c.args.self.now in
    let message = c.in-Describe.is ∙ ap (λ (t : Target). clients.Describe t c.in-Describe.name) c.in-Statement.is in
    adds_as old old c.describe_statement.new.self _ _ refl
    (λ answer new is. subst (λ (m : ClientMessage). Answers c.args.lent.now.desk.now c.args.user old.state c.args.pass.now m answer new c.describe_statement.new.pass) (sym message)
    (statement_described (subst (λ (n : List ℕ). AnswersStatementDescribe c.args.lent.now.desk.now c.args.user n old.state c.args.pass.now answer new c.describe_statement.new.pass) c.as_slice-in-Statement.ensures is)))
    c.describe_statement.ensures.adds

pub returns-in-Execute-clause-adds : goal.returns-in-Execute-clause-adds
returns-in-Execute-clause-adds g c =
    let old = c.args.self.now in
    let most = c.in-Execute.most in
    adds_as old old c.execute.new.self _ _ refl
    (λ answer new is. subst (λ (m : ClientMessage). Answers c.args.lent.now.desk.now c.args.user old.state c.args.pass.now m answer new c.execute.new.pass) (sym c.in-Execute.is)
    (executed (subst (λ (n : List ℕ). AnswersExecute c.args.lent.now.desk.now c.args.user n most old.state c.args.pass.now answer new c.execute.new.pass) c.as_slice-in-Execute.ensures is)))
    c.execute.ensures.adds

pub returns-in-Portal-target-clause-adds : goal.returns-in-Portal-target-clause-adds
returns-in-Portal-target-clause-adds g c =
    let old = c.args.self.now in
    let answer = plain plains.CloseComplete in
    let closed : List ℕ → ConversationState = λ n. closed_at (portal_place n old.state.portals) old.state in
    let new = closed c.in-Close.name in
    let message = c.in-Close.is ∙ ap (λ (t : Target). clients.Close t c.in-Close.name) c.in-Portal-target.is in
    adds old c.close_portal.new.self _ answer new
    (c.close_portal.ensures.items ∙ ap (λ (q : List Item). q ++ answer) (sym c.requires.free)) c.close_portal.ensures.capacity
    (c.close_portal.ensures.state ∙ ap closed c.as_slice-in-Portal-target.ensures)
    (subst (λ (m : ClientMessage). Answers c.args.lent.now.desk.now c.args.user old.state c.args.pass.now m answer new c.args.pass.now) (sym message) portal_closed)

pub returns-in-Statement-target-clause-adds : goal.returns-in-Statement-target-clause-adds
returns-in-Statement-target-clause-adds g c =
    let old = c.args.self.now in
    let answer = plain plains.CloseComplete in
    let closed : List ℕ → ConversationState = λ n. record (old.state) { statements = without_statement n old.state.statements } in
    let new = closed c.in-Close.name in
    let message = c.in-Close.is ∙ ap (λ (t : Target). clients.Close t c.in-Close.name) c.in-Statement-target.is in
    adds old c.close_statement.new.self _ answer new
    (c.close_statement.ensures.items ∙ ap (λ (q : List Item). q ++ answer) (sym c.requires.free)) c.close_statement.ensures.capacity
    (c.close_statement.ensures.state ∙ ap closed c.as_slice-in-Statement-target.ensures)
    (subst (λ (m : ClientMessage). Answers c.args.lent.now.desk.now c.args.user old.state c.args.pass.now m answer new c.args.pass.now) (sym message) statement_closed)

pub returns-in-Flush-clause-adds : goal.returns-in-Flush-clause-adds
returns-in-Flush-clause-adds g c =
    let old = c.args.self.now in
    adds old old _ [] old.state (sym (append-nil old.sending.items)) refl refl
    (subst (λ (m : ClientMessage). Answers c.args.lent.now.desk.now c.args.user old.state c.args.pass.now m [] old.state c.args.pass.now) (sym c.in-Flush.is) flushed)

pub returns-in-Sync-clause-adds : goal.returns-in-Sync-clause-adds
returns-in-Sync-clause-adds g c =
    let old = c.args.self.now in
    let answer = plain (plains.Ready old.state.block) in
    let new = behind_sync old.state.block old.state in
    adds old c.sync.new.self _ answer new (c.sync.ensures.items ∙ ap (λ (q : List Item). q ++ answer) (sym c.requires.free)) c.sync.ensures.capacity c.sync.ensures.state
    (subst (λ (m : ClientMessage). Answers c.args.lent.now.desk.now c.args.user old.state c.args.pass.now m answer new c.args.pass.now) (sym c.in-Sync.is) synced)

pub returns-in-Terminate-clause-adds : goal.returns-in-Terminate-clause-adds
returns-in-Terminate-clause-adds g c =
    let old = c.args.self.now in
    adds old c.close.new.self _ [] (ended old.state) (ap (λ (q : Queue). q.items) c.close.ensures.sending ∙ sym (append-nil old.sending.items)) (ap (λ (q : Queue). capacity q) c.close.ensures.sending) c.close.ensures.state
    (subst (λ (m : ClientMessage). Answers c.args.lent.now.desk.now c.args.user old.state c.args.pass.now m [] (ended old.state) c.args.pass.now) (sym c.in-Terminate.is) terminated)

pub returns-in-Password-clause-adds : goal.returns-in-Password-clause-adds
returns-in-Password-clause-adds g c =
    let old = c.args.self.now in
    let answer = fatal_error problems.NotExpected in
    adds old c.end.new.self _ answer (ended old.state) c.end.ensures.items c.end.ensures.capacity c.end.ensures.state
    (subst (λ (m : ClientMessage). Answers c.args.lent.now.desk.now c.args.user old.state c.args.pass.now m answer (ended old.state) c.args.pass.now) (sym c.in-Password.is) not_expected)

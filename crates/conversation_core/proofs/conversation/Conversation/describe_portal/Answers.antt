use Rattle.std.proofs.Common.{List, ℕ, Ok, Err, None, subst}
use Rattle.messages_core.specs.declared.rows.Format.{Format}
use Rattle.sending_core.specs.declared.problem.Problem.TheVariants as problems
use Rattle.conversation_core.specs.Extending.{DescribesLineRows, fault_items}
use Rattle.conversation_core.specs.Extending.AnswersPortalDescribe.{described, not_bound, refused}
use Rattle.conversation_core.specs.State.{behind_problem}
use Rattle.conversation_core.specs.Telling.{error, plain}
use Rattle.conversation_core.proofs.AddedAnswers.{adds}
use Rattle.conversation_core.proofs.conversation.Conversation.describe_portal.Goals as goal

pub returns-in_default-clause-adds : goal.returns-in_default-clause-adds
returns-in_default-clause-adds g c =
    adds c.args.self.now c.refuse.new.self _ (error problems.NoPortal) (behind_problem c.args.self.now.state)
    c.refuse.ensures.items c.refuse.ensures.capacity c.refuse.ensures.state (not_bound c.in_default.ensures)

pub returns-in-Ok-clause-adds : goal.returns-in-Ok-clause-adds
returns-in-Ok-clause-adds g c =
    let rows = subst (λ (l : List ℕ). DescribesLineRows c.args.lent.now.desk.now c.args.user l c.in-Some.portal.now.formats c.args.pass.now (Ok c.in-Ok.message) c.line_described.new.pass) c.as_slice-line.ensures
    (subst (λ (fs : List Format). DescribesLineRows c.args.lent.now.desk.now c.args.user c.as_slice-line.result.now fs c.args.pass.now (Ok c.in-Ok.message) c.line_described.new.pass) c.twin_of-formats.ensures
    c.in-Ok.ensures.describes) in
    adds c.args.self.now c.send.new.self _ (plain c.in-Ok.message) c.args.self.now.state
    c.send.ensures.items c.send.ensures.capacity c.send.ensures.state (described c.in-Some.ensures rows)

pub returns-in-Err-clause-adds : goal.returns-in-Err-clause-adds
returns-in-Err-clause-adds g c =
    let rows = subst (λ (l : List ℕ). DescribesLineRows c.args.lent.now.desk.now c.args.user l c.in-Some.portal.now.formats c.args.pass.now (Err c.in-Err.fault) c.line_described.new.pass) c.as_slice-line.ensures
    (subst (λ (fs : List Format). DescribesLineRows c.args.lent.now.desk.now c.args.user c.as_slice-line.result.now fs c.args.pass.now (Err c.in-Err.fault) c.line_described.new.pass) c.twin_of-formats.ensures
    c.in-Err.ensures.describes) in
    adds c.args.self.now c.refuse_by.new.self _ (fault_items c.in-Err.fault None) (behind_problem c.args.self.now.state)
    c.refuse_by.ensures.items c.refuse_by.ensures.capacity c.refuse_by.ensures.state (refused c.in-Some.ensures rows)

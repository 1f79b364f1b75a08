use Rattle.std.proofs.Common.{◌++◌, List, None, sym, ap, ◌∙◌, append_assoc}
use Rattle.sending_core.specs.declared.item.Item.{Item}
use Rattle.sending_core.specs.declared.plain.Plain.TheVariants as plains
use Rattle.sending_core.specs.declared.problem.Problem.TheVariants as problems
use Rattle.conversation_core.specs.Extending.{fault_items}
use Rattle.conversation_core.specs.Extending.AnswersStatementDescribe.{described, not_prepared, refused}
use Rattle.conversation_core.specs.State.{behind_problem}
use Rattle.conversation_core.specs.Telling.{error, plain}
use Rattle.conversation_core.proofs.AddedAnswers.{adds}
use Rattle.conversation_core.proofs.conversation.Conversation.describe_statement.Goals as goal

pub returns-in_default-clause-adds : goal.returns-in_default-clause-adds
returns-in_default-clause-adds g c =
    adds c.args.self.now c.refuse.new.self _ (error problems.NoStatement) (behind_problem c.args.self.now.state)
    c.refuse.ensures.items c.refuse.ensures.capacity c.refuse.ensures.state (not_prepared (sym c.in_default.ensures))

pub returns-in-Ok-clause-adds : goal.returns-in-Ok-clause-adds
returns-in-Ok-clause-adds g c =
    let old = c.args.self.now in
    let types = plain (plains.Types c.in-Ok.types) in
    let message = plain c.in-Ok.message in
    let added = c.send-in-Ok.ensures.items ∙ (ap (λ (q : List Item). q ++ message) c.send.ensures.items ∙ append_assoc old.sending.items types message) in
    adds old c.send-in-Ok.new.self _ (types ++ message) old.state
    added (c.send-in-Ok.ensures.capacity ∙ c.send.ensures.capacity) (c.send-in-Ok.ensures.state ∙ c.send.ensures.state)
    (described (sym c.in-Some.ensures) c.in-Ok.ensures.describes)

pub returns-in-Err-clause-adds : goal.returns-in-Err-clause-adds
returns-in-Err-clause-adds g c =
    adds c.args.self.now c.refuse_by.new.self _ (fault_items c.in-Err.fault None) (behind_problem c.args.self.now.state)
    c.refuse_by.ensures.items c.refuse_by.ensures.capacity c.refuse_by.ensures.state (refused (sym c.in-Some.ensures) c.in-Err.ensures.describes)

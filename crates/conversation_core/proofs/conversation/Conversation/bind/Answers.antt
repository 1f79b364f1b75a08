use Rattle.std.proofs.Common.{ap, ◌∙◌}
use Rattle.sending_core.specs.declared.plain.Plain.TheVariants as plains
use Rattle.sending_core.specs.declared.problem.Problem.TheVariants as problems
use Rattle.conversation_core.specs.Extending.AnswersBind.{bound, unmade}
use Rattle.conversation_core.specs.Extending.IsPortalFault.{exhausted}
use Rattle.conversation_core.specs.State.{behind_problem}
use Rattle.conversation_core.specs.Telling.{error, plain}
use Rattle.conversation_core.proofs.AddedAnswers.{adds, adds_behind}
use Rattle.conversation_core.proofs.conversation.Conversation.bind.Goals as goal

pub returns-in-Ok-keep_portal : goal.returns-in-Ok-keep_portal
returns-in-Ok-keep_portal c =
    adds_behind c.args.self.now c.send.new.self _ (plain plains.BindComplete) c.keep_portal.new.self.state c.keep_portal.new.self
    c.in-Ok-keep_portal.ensures.sending c.send.ensures.items c.send.ensures.capacity c.send.ensures.state
    (bound c.in-Ok.ensures c.in-Ok-keep_portal.ensures.ok)

pub returns-in-Err-keep_portal : goal.returns-in-Err-keep_portal
returns-in-Err-keep_portal c =
    adds_behind c.args.self.now c.refuse.new.self _ (error problems.NoMemory) (behind_problem c.args.self.now.state) c.keep_portal.new.self
    c.in-Err-keep_portal.ensures.sending c.refuse.ensures.items c.refuse.ensures.capacity
    (c.refuse.ensures.state ∙ ap behind_problem c.in-Err-keep_portal.ensures.err) (unmade (exhausted c.in-Ok.ensures))

pub returns-in-Err : goal.returns-in-Err
returns-in-Err c =
    adds c.args.self.now c.refuse-in-Err.new.self _ (error c.in-Err.problem) (behind_problem c.args.self.now.state)
    c.refuse-in-Err.ensures.items c.refuse-in-Err.ensures.capacity c.refuse-in-Err.ensures.state (unmade c.in-Err.ensures)

use Rattle.std.proofs.Common.{◌++◌, List, false, ap, ◌∙◌}
use Rattle.sending_core.specs.declared.item.Item.{Item}
use Rattle.sending_core.specs.declared.problem.Problem.{Problem}
use Rattle.preparing_core.specs.FaultProblems.{fill_problem}
use Rattle.conversation_core.specs.State.{Conversing, ConversationState}
use Rattle.conversation_core.specs.Telling.{error}
use Rattle.conversation_core.specs.Querying.{AnswersStatement}
use Rattle.conversation_core.proofs.Additions.{adds_to}
use Rattle.conversation_core.proofs.Queried.{asked_one}
use Rattle.conversation_core.proofs.conversation.Conversation.answer_said.Goals as goal

pub returns-in-Ok-clause-adds : goal.returns-in-Ok-clause-adds
returns-in-Ok-clause-adds g c =
    let a = c.tell_asked.ensures.adds in
    record {
      answer = a.answer;
      is = asked_one c.args.lent.now.desk.now c.args.user c.args.text.now c.args.is_alone c.args.start c.args.statement.now c.args.self.now.state c.args.pass.now c.ask-asked.new.pass
          c.as_slice-line.result.now c.in-Ok.line.items c.self.inside.block c.query_telling.result c.ask-asked.result c.asked_place-place.result a.answer c.tell_asked.new.self.state c.tell_asked.result
          c.requires.says c.in-Ok.ensures.filled c.as_slice-line.ensures.value (ap (λ (v : Conversing). v.state.block) c.self.view_is) c.query_telling.ensures
          c.ask-asked.ensures.asks c.asked_place-place.ensures a.is;
      added = a.added;
      room = a.room;
    }

pub returns-in-Err-clause-adds : goal.returns-in-Err-clause-adds
returns-in-Err-clause-adds g c =
    let old = c.args.self.now in
    let told = c.tell.ensures in
    let IsAnswer : List Item → ConversationState → Type 0 = λ answer n.
    AnswersStatement c.args.lent.now.desk.now c.args.user c.args.text.now c.args.is_alone c.args.start c.args.statement.now old.state c.args.pass.now answer n c.args.pass.now false in
    adds_to IsAnswer old c.tell.new.self (error (fill_problem c.in-Err.fault)) old.state (AnswersStatement.unfilled c.in-Err.fault c.requires.says c.in-Err.ensures.faulty)
    (told.items ∙ ap (λ (p : Problem). old.sending.items ++ error p) c.fill_problem.ensures) told.capacity told.state

use Rattle.std.proofs.Common.{◌++◌, true, ap, ◌∙◌, subst, arith}
use Rattle.sending_core.specs.Queue.{Queue, capacity}
use Rattle.sending_core.specs.declared.plain.Plain.TheVariants as plains
use Rattle.sending_core.specs.declared.problem.Problem.{Problem}
use Rattle.sending_core.specs.declared.problem.Problem.TheVariants as problems
use Rattle.conversation_core.specs.State.{ConversationState, ended}
use Rattle.conversation_core.specs.Telling.{AnswersAsked, Obeys, bar_problem, error, fatal_error, plain}
use Rattle.conversation_core.proofs.Additions.{adds_to}
use Rattle.conversation_core.proofs.conversation.Conversation.tell_asked.Goals as goal

pub returns-in-Command-clause-adds : goal.returns-in-Command-clause-adds
returns-in-Command-clause-adds c =
    let a = c.obey.ensures.adds in
    let same = c.note.ensures.sending in
    rw c.in-Command.is
    (record {
      answer = a.answer;
      is = AnswersAsked.commanded (subst (λ (s : ConversationState). Obeys c.args.telling c.args.line.now s c.in-Command.command a.answer c.obey.new.self.state c.obey.result) c.note.ensures.state a.is);
      added = a.added ∙ ap (λ (q : Queue). q.items ++ a.answer) same;
      room = omega (arith, a.room, ap capacity same);
    })

pub returns-in-Faulty-clause-adds : goal.returns-in-Faulty-clause-adds
returns-in-Faulty-clause-adds c =
    let told = c.tell_alone.ensures in
    rw c.in-Faulty.is
    (adds_to _ c.args.self.now c.tell_alone.new.self (plain (plains.Fault c.in-Faulty.code c.in-Faulty.offset c.args.place)) _ AnswersAsked.faulty told.items told.capacity told.state)

pub returns-in-Unread-clause-adds : goal.returns-in-Unread-clause-adds
returns-in-Unread-clause-adds c =
    let told = c.tell_alone-in-Unread.ensures in
    rw c.in-Unread.is
    (adds_to _ c.args.self.now c.tell_alone-in-Unread.new.self (plain plains.Unread) _ AnswersAsked.unread told.items told.capacity told.state)

pub returns-in-Barred-clause-adds : goal.returns-in-Barred-clause-adds
returns-in-Barred-clause-adds c =
    let told = c.tell_alone-in-Barred.ensures in
    let old = c.args.self.now in
    rw c.in-Barred.is
    (adds_to _ old c.tell_alone-in-Barred.new.self (error (bar_problem c.in-Barred.bar)) _ AnswersAsked.barred
    (told.items ∙ ap (λ (p : Problem). old.sending.items ++ error p) c.bar_problem.ensures) told.capacity told.state)

pub returns-in-Told-clause-adds : goal.returns-in-Told-clause-adds
returns-in-Told-clause-adds c =
    let told = c.tell_reply.ensures in
    rw (c.in-Told.is, told.well)
    (adds_to _ c.args.self.now c.tell_reply.new.self _ _ AnswersAsked.told told.items told.capacity told.state)

pub returns-in-Withheld-clause-adds : goal.returns-in-Withheld-clause-adds
returns-in-Withheld-clause-adds c =
    let told = c.withhold.ensures in
    rw c.in-Withheld.is
    (adds_to _ c.args.self.now c.withhold.new.self (fatal_error problems.Journal) _ AnswersAsked.withheld
    (told.items ∙ ap (λ (q : Queue). q.items ++ (fatal_error problems.Journal)) c.note-in-Withheld.ensures.sending) (told.capacity ∙ ap capacity c.note-in-Withheld.ensures.sending) (told.state ∙ ap (λ (s : ConversationState). record (ended s) { unkept = true }) c.note-in-Withheld.ensures.state))

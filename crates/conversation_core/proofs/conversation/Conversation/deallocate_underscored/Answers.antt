use Rattle.std.proofs.Common.{sym}
use Rattle.sending_core.specs.declared.problem.Problem.TheVariants as problems
use Rattle.conversation_core.specs.Telling.{Obeys, error}
use Rattle.conversation_core.proofs.Additions.{adds_to}
use Rattle.conversation_core.proofs.conversation.Conversation.deallocate_underscored.Goals as goal

pub returns-in_default-clause-adds : goal.returns-in_default-clause-adds
returns-in_default-clause-adds c =
    adds_to _ c.args.self.now c.tell.new.self (error problems.NoStatement) c.args.self.now.state (Obeys.unnamed (sym c.in_default.ensures))
    c.tell.ensures.items c.tell.ensures.capacity c.tell.ensures.state

pub returns-clause-adds : goal.returns-clause-adds
returns-clause-adds c =
    let told = c.deallocate_named.ensures.adds in
    record {
      answer = told.answer;
      is = Obeys.underscored (sym c.in-Some.ensures) told.is;
      added = told.added;
      room = told.room;
    }

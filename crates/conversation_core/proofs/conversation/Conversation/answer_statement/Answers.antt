use Rattle.std.proofs.Common.{[], sym, ◌∙◌, append-nil, arith}
use Rattle.conversation_core.specs.Querying.{AnswersStatement}
use Rattle.conversation_core.proofs.conversation.Conversation.answer_statement.Goals as goal

pub returns-then-is_empty_statement-clause-adds : goal.returns-then-is_empty_statement-clause-adds
returns-then-is_empty_statement-clause-adds g c = record {
  answer = [];
  is = AnswersStatement.silent (sym c.is_empty_statement.ensures ∙ c.if-is_empty_statement.true);
  added = sym (append-nil c.args.self.now.sending.items);
  room = omega arith;
}

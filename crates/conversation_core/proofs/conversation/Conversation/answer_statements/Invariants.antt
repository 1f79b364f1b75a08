use Rattle.std.proofs.Common.{length}
use Rattle.conversation_core.proofs.Going.{Going}
use Rattle.conversation_core.proofs.conversation.Conversation.answer_statements.Given as goal

abbrev pub invariant-statements : goal.invariant-statements
invariant-statements g l = Going l.lent.desk.now l.user l.text l.is_alone l.initial.self l.initial.pass l.start l.left l.self l.pass

abbrev pub decreases-statements : goal.decreases-statements
decreases-statements g l = length l.left

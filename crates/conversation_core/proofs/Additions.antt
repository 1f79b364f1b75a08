-- What was added, by what is to be sent then.
use Rattle.std.proofs.Common.{◌≡◌, ◌++◌, List, sym, subst, arith}
use Rattle.sending_core.specs.Queue.{capacity}
use Rattle.sending_core.specs.declared.item.Item.{Item}
use Rattle.conversation_core.specs.State.{Adds, ConversationState, Conversing}

-- this answer, behind which the session stands so
pub adds_to : (IsAnswer : List Item → ConversationState → Type 0) (old new : Conversing) (answer : List Item) (state : ConversationState)
    → IsAnswer answer state → new.sending.items ≡ old.sending.items ++ answer → capacity new.sending ≡ capacity old.sending → new.state ≡ state
    → Adds old new IsAnswer
adds_to IsAnswer old new answer state is added same e = record {
  answer = answer;
  is = subst (λ (s : ConversationState). IsAnswer answer s) (sym e) is;
  added = added;
  room = omega (arith, same);
}

-- What an answer adds to what is to be sent, by the steps that add it.
use Rattle.std.proofs.Common.{◌≡◌, List, ◌++◌, sym, ap, subst, ◌∙◌, arith}
use Rattle.sending_core.specs.Queue.{Queue, capacity}
use Rattle.sending_core.specs.declared.item.Item.{Item}
use Rattle.conversation_core.specs.State.{Adds, ConversationState, Conversing}
use Rattle.conversation_core.proofs.Additions.{adds_to}

module _ (old new : Conversing) (IsAnswer : List Item → ConversationState → Type 0) (answer : List Item) (state : ConversationState) where
  -- it was added to the queue as it was, and this state stands behind it
  pub adds : new.sending.items ≡ old.sending.items ++ answer → capacity new.sending ≡ capacity old.sending → new.state ≡ state → IsAnswer answer state → Adds old new IsAnswer
  adds added same stands is = adds_to IsAnswer old new answer state is added same stands

  -- the same where the queue was left alone before
  pub adds_behind : (mid : Conversing) → mid.sending ≡ old.sending → new.sending.items ≡ mid.sending.items ++ answer → capacity new.sending ≡ capacity mid.sending
      → new.state ≡ state → IsAnswer answer state → Adds old new IsAnswer
  adds_behind mid kept added same stands is =
      adds (added ∙ ap (λ (q : Queue). q.items ++ answer) kept) (same ∙ ap capacity kept) stands is

-- what an answer is may be said otherwise
pub adds_as : (old mid new : Conversing) (Is As : List Item → ConversationState → Type 0) → mid.sending ≡ old.sending
    → ((answer : List Item) (state : ConversationState) → Is answer state → As answer state) → Adds mid new Is → Adds old new As
adds_as old mid new Is As kept so a =
    let same : capacity mid.sending ≡ capacity old.sending = ap capacity kept in
    record {
      answer = a.answer;
      is = so a.answer new.state a.is;
      added = a.added ∙ ap (λ (q : Queue). q.items ++ a.answer) kept;
      room = omega (arith, same, a.room);
    }

-- and the state behind it may be another
pub adds_on : (old mid new : Conversing) (Is As : List Item → ConversationState → Type 0) (state : ConversationState) → new.sending ≡ mid.sending → new.state ≡ state
    → ((answer : List Item) → Is answer mid.state → As answer state) → Adds old mid Is → Adds old new As
adds_on old mid new Is As state kept stands so a =
    let same : capacity new.sending ≡ capacity mid.sending = ap capacity kept in
    record {
      answer = a.answer;
      is = subst (λ (s : ConversationState). As a.answer s) (sym stands) (so a.answer a.is);
      added = ap (λ (q : Queue). q.items) kept ∙ a.added;
      room = omega (arith, same, a.room);
    }

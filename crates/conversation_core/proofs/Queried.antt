-- What a Query and its statements come to, from the steps of answering them.
use Rattle.std.proofs.Common.{◌≡◌, ◌≤◌, ◌++◌, ℕ, Bool, false, List, [], Option, sym, subst, ap, ◌∙◌, append_assoc, arith}
use Rattle.base_core.specs.declared.name.User.{User}
use Rattle.messages_core.specs.declared.server.Status.{Status}
use Rattle.parameters_core.specs.Statements.{is_empty_statement}
use Rattle.parameters_core.specs.Filling.{IsFilled}
use Rattle.desk_core.specs.Guarded.{DeskLock, DeskPass}
use Rattle.sending_core.specs.Queue.{capacity}
use Rattle.sending_core.specs.declared.item.Item.{Item}
use Rattle.asking_core.specs.Asking.{AsksLine}
use Rattle.asking_core.specs.declared.asking.Asked.{Asked}
use Rattle.conversation_core.specs.State.{Adds, Conversing, ConversationState}
use Rattle.conversation_core.specs.Telling.{AnswersAsked, IsAskedPlace}
use Rattle.conversation_core.specs.Querying.{AnswersQuery, AnswersStatement, query_manner, query_telling, ready}
use Rattle.conversation_core.specs.declared.telling.Telling.{Telling}

module _ {K : Type 0} (desk : DeskLock K) (user : User) (text : List ℕ) where
  -- a statement that was asked
  pub asked_one : (alone : Bool) (start : ℕ) (statement : List ℕ) (old : ConversationState) (before after : DeskPass K) (line items : List ℕ) (block : Status) (telling : Telling)
      (asked : Asked) (place : Option ℕ) (answer : List Item) (new : ConversationState) (well : Bool)
      → is_empty_statement statement ≡ false → IsFilled statement [] items → line ≡ items → block ≡ old.block → telling ≡ query_telling
      → AsksLine desk user (query_manner block alone) line before asked after → IsAskedPlace text start statement asked place
      → AnswersAsked telling line place old asked answer new well
      → AnswersStatement desk user text alone start statement old before answer new after well
  asked_one alone start statement old before after line items block telling asked place answer new well says filled same block_is telling_is asks placed answers =
      AnswersStatement.asked says (subst (λ (xs : List ℕ). IsFilled statement [] xs) (sym same) filled)
      (subst (λ (b : Status). AsksLine desk user (query_manner b alone) line before asked after) block_is asks) placed
      (subst (λ (t : Telling). AnswersAsked t line place old asked answer new well) telling_is answers)

  -- with that the session is ready, behind what was added
  pub readied : (old mid end : Conversing) (before after : DeskPass K) (answer : List Item) (state : ConversationState)
      → AnswersQuery desk user text old.state before (answer ++ ready state) state after
      → mid.sending.items ≡ old.sending.items ++ answer → capacity old.sending ≤ capacity mid.sending → mid.state ≡ state
      → end.sending.items ≡ mid.sending.items ++ ready mid.state → capacity end.sending ≡ capacity mid.sending → end.state ≡ mid.state
      → Adds old end (λ (xs : List Item) (n : ConversationState). AnswersQuery desk user text old.state before xs n after)
  readied old mid end before after answer state is added wide state_is readies same stays = record {
    answer = answer ++ ready state;
    is = subst (λ (n : ConversationState). AnswersQuery desk user text old.state before (answer ++ ready state) n after) (sym (stays ∙ state_is)) is;
    added = readies ∙ (ap (λ (n : ConversationState). mid.sending.items ++ ready n) state_is
        ∙ (ap (λ (xs : List Item). xs ++ ready state) added ∙ append_assoc old.sending.items answer (ready state)));
    room = omega (arith, wide, same);
  }

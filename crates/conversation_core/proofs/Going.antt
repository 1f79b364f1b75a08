-- The statements of a Query that were answered so far, and what is left of its text.
use Rattle.std.proofs.Common.{◌≡◌, ◌≤◌, ◌<◌, ◌+◌, ◌*◌, ℕ, Bool, true, false, List, [], ◌∷◌, ◌++◌, length, Option, Some, None, ap, sym, ◌∙◌, subst, append_assoc, append-nil, length-append, arith}
use Rattle.base_core.specs.declared.name.User.{User}
use Rattle.parameters_core.specs.Statements.{StandsFirst}
use Rattle.desk_core.specs.Guarded.{DeskLock, DeskPass}
use Rattle.session_core.specs.Gains.{Gains}
use Rattle.session_core.proofs.Growing.{Gains-refl, Gains-trans}
use Rattle.sending_core.specs.Queue.{capacity}
use Rattle.sending_core.specs.declared.item.Item.{Item}
use Rattle.conversation_core.specs.State.{Adds, Conversing, ConversationState, behind_error}
use Rattle.conversation_core.specs.Querying.{AnswersFrom, AnswersStatement, HasStatements, said_count}
use Rattle.conversation_core.proofs.Counting.{behind_first}

-- With whatever the rest is answered, the whole text is answered with what was added and that. There is room
-- for three items of each statement that is left, and for one more.
pub record Going {K : Type 0} (desk : DeskLock K) (user : User) (text : List ℕ) (alone : Bool) (old : Conversing) (before : DeskPass K)
    (start : ℕ) (left : List ℕ) (now : Conversing) (between : DeskPass K) : Type 0 where
  pub done : List Item
  pub added : now.sending.items ≡ old.sending.items ++ done
  pub wide : capacity old.sending ≤ capacity now.sending
  pub goes_on : (others : List Item) (new : ConversationState) (after : DeskPass K)
      → AnswersFrom desk user text alone start left now.state between others new after
      → AnswersFrom desk user text alone 0 text old.state before (done ++ others) new after
  pub gained : Gains user before between
  pub place : start + length left ≡ length text
  pub count : ℕ
  pub counted : HasStatements left count
  pub room : 3 * count < now.sending.room

module _ {K : Type 0} (desk : DeskLock K) (user : User) (text : List ℕ) (alone : Bool) where
  -- the answers of a text, one after another
  abbrev AddsText : Conversing → DeskPass K → Conversing → DeskPass K → Type 0
  AddsText old before new after = Adds old new (λ answer n. AnswersFrom desk user text alone 0 text old.state before answer n after)

  -- and that of a statement
  abbrev AddsOne : ℕ → List ℕ → Conversing → DeskPass K → Conversing → DeskPass K → Bool → Type 0
  AddsOne start statement old before new after well =
      Adds old new (λ answer n. AnswersStatement desk user text alone start statement old.state before answer n after well)

  pub begun : (old : Conversing) (before : DeskPass K) (count : ℕ) → HasStatements text count → 3 * count < old.sending.room
      → Going desk user text alone old before 0 text old before
  begun old before count counted room = record {
    done = [];
    added = sym (append-nil old.sending.items);
    wide = omega arith;
    goes_on = λ others new after a. a;
    gained = Gains-refl user before;
    place = omega arith;
    count = count;
    counted = counted;
    room = room;
  }

  module _ (old : Conversing) (before : DeskPass K) (start : ℕ) (left : List ℕ) (now : Conversing) (between : DeskPass K)
      (g : Going desk user text alone old before start left now between) (statement : List ℕ) (new : Conversing) (after : DeskPass K) where
    -- with the answer to the statement that stands first
    added_behind : (answer : List Item) → new.sending.items ≡ now.sending.items ++ answer → new.sending.items ≡ old.sending.items ++ (g.done ++ answer)
    added_behind answer e = e ∙ (ap (λ (xs : List Item). xs ++ answer) g.added ∙ append_assoc old.sending.items g.done answer)

    pub last_one : StandsFirst left statement None → AddsOne start statement now between new after true → AddsText old before new after
    last_one stands a = record {
      answer = g.done ++ a.answer;
      is = g.goes_on a.answer new.state after (AnswersFrom.last stands a.is);
      added = added_behind a.answer a.added;
      room = omega (arith, g.wide, a.room);
    }

    pub one_more : (rest : List ℕ) → StandsFirst left statement (Some rest) → AddsOne start statement now between new after true
        → Gains user between after → now.sending.room ≤ new.sending.room + 3 * said_count statement
        → Going desk user text alone old before (start + length statement + 1) rest new after
    one_more rest stands a gained room =
        let m = behind_first left statement rest g.count g.counted stands in
        let long : length left ≡ length statement + length (59 ∷ rest) = ap length stands.0 ∙ length-append statement (59 ∷ rest) in
        record {
          done = g.done ++ a.answer;
          added = added_behind a.answer a.added;
          wide = omega (arith, g.wide, a.room);
          goes_on = λ others n p more.
              subst (λ (xs : List Item). AnswersFrom desk user text alone 0 text old.state before xs n p) (sym (append_assoc g.done a.answer others))
              (g.goes_on (a.answer ++ others) n p (AnswersFrom.more stands a.is more));
          gained = Gains-trans user before between after g.gained gained;
          place = omega (arith, g.place, long);
          count = m.0;
          counted = m.1;
          room = omega (arith, g.room, room, m.2);
        }

    -- an error ends it
    pub stopped : (behind : Option (List ℕ)) → StandsFirst left statement behind → AddsOne start statement now between new after false
        → (end : Conversing) → end.sending ≡ new.sending → end.state ≡ behind_error new.state → AddsText old before end after
    stopped behind stands a end sending state = record {
      answer = g.done ++ a.answer;
      is = subst (λ (s : ConversationState). AnswersFrom desk user text alone 0 text old.state before (g.done ++ a.answer) s after) (sym state)
          (g.goes_on a.answer (behind_error new.state) after (AnswersFrom.stopped behind stands a.is));
      added = ap (λ q. q.items) sending ∙ added_behind a.answer a.added;
      room = rw sending (omega (arith, g.wide, a.room));
    }

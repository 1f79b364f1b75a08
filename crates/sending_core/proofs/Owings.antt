-- What is owed, item by item.
use Rattle.std.proofs.Common.{◌≡◌, ℕ, ◌+◌, ◌<◌, List, [], ◌∷◌, ◌++◌, Option, Some, None, refl, sym, ap, subst, ◌∙◌, append_assoc, arith}
use Rattle.base_core.specs.Streams.{Writes, WritesFrontOf}
use Rattle.base_core.proofs.Fronts.{front-first}
use Rattle.answer_core.specs.Answers.{Continues, IsBelow}
use Rattle.answer_core.specs.declared.unsent.Progress.{Progress}
use Rattle.answer_core.specs.declared.unsent.Progress.TheVariants as progresses
use Rattle.answer_core.proofs.Beginning.{some_reply_answer}
use Rattle.answer_core.proofs.Going.{some_answer}
use Rattle.sending_core.specs.Owing.{IsOwed, IsTold, Lefts, SendsPart, TakesFewer, Tells, calls_of, count_owed, lefts_behind, place_of, put_left, queue_behind}
use Rattle.sending_core.specs.Plain.{plain_text}
use Rattle.sending_core.specs.declared.item.Item.{Item}
use Rattle.sending_core.specs.declared.item.Item.TheVariants as items

-- something may always be written of an item
some_told : (item : Item) → (text : List ℕ) × IsTold item text
some_told (items.Plain plain) = (plain_text plain, (None, (refl, refl)))
some_told (items.Answer request reply place) = some_reply_answer request reply
some_told (items.Rest unsent place) = some_answer unsent

-- and of items one after another
pub some_owed : (queue : List Item) (lefts : Lefts) → (text : List ℕ) × IsOwed queue lefts text
some_owed [] lefts = ([], (lefts, (refl, refl)))
some_owed (item ∷ others) lefts =
    let first = some_told item in
    let rest = some_owed others (put_left (place_of item) first.1.0 lefts) in
    (first.0 ++ rest.0, (rest.1.0, (first.0, first.1.0, rest.0, first.1.1, rest.1.1, refl)))

-- ---- the first item

sends_part : (item : Item) (others : List Item) (lefts : Lefts) (progress : Progress) (text : List ℕ) → Continues (Tells item) progress text
    → SendsPart (item ∷ others) lefts (queue_behind progress (place_of item) others) (lefts_behind progress (place_of item) lefts) text
sends_part item others lefts progresses.Whole text h = λ rest behind o. (text, None, rest, h, o, refl)
sends_part item others lefts (progresses.Suspended portal) text h = λ rest behind o. (text, Some portal, rest, h, o, refl)
sends_part item others lefts (progresses.Part unsent) text h = λ rest behind o. (
  text ++ o.0,
  o.1,
  o.2,
  h o.0 o.1 o.3,
  o.4,
  ap (λ (t : List ℕ). text ++ t) o.5 ∙ sym (append_assoc text o.0 o.2),
)

-- ---- calls

pub fewer_than : (count calls : ℕ) (progress : Progress) → count < calls → IsBelow count progress → TakesFewer calls progress
fewer_than count calls progresses.Whole lt h = omega arith
fewer_than count calls (progresses.Suspended portal) lt h = omega arith
fewer_than count calls (progresses.Part unsent) lt h = omega (arith, h)

falls : (calls : ℕ) (others : List Item) (place : Option ℕ) (progress : Progress) → TakesFewer calls progress
    → count_owed (queue_behind progress place others) < calls + count_owed others
falls calls others place progresses.Whole h = omega (arith, h)
falls calls others place (progresses.Suspended portal) h = omega (arith, h)
falls calls others place (progresses.Part unsent) h = omega (arith, h)

-- ---- the first item of a queue

module _ (queue : List Item) (item : Item) (others : List Item) (lefts : Lefts) (first : queue ≡ item ∷ others) where
  -- the writer failed at it
  pub breaks_first : (before after : Option (List ℕ)) → WritesFrontOf (IsTold item) before after → WritesFrontOf (IsOwed queue lefts) before after
  breaks_first before after w =
      let rest = some_owed others (put_left (place_of item) w.is.0 lefts) in
      subst (λ (q : List Item). WritesFrontOf (IsOwed q lefts) before after) (sym first) (record {
        text = w.text ++ rest.0;
        is = (rest.1.0, (w.text, w.is.0, rest.0, w.is.1, rest.1.1, refl));
        wrote = front-first before after w.text rest.0 w.wrote;
      })

  module _ (place : Option ℕ) (there : place ≡ place_of item) (progress : Progress) where
    -- it has come so far
    pub writes_first : (behind : List Item) (left : Lefts) → behind ≡ queue_behind progress place others → left ≡ lefts_behind progress place lefts
        → (before after : Option (List ℕ)) → Writes (Continues (Tells item) progress) before after
        → Writes (SendsPart queue lefts behind left) before after
    writes_first behind left is_behind is_left before after w =
        let behind_is : behind ≡ queue_behind progress (place_of item) others = is_behind ∙ ap (λ (p : Option ℕ). queue_behind progress p others) there in
        let left_is : left ≡ lefts_behind progress (place_of item) lefts = is_left ∙ ap (λ (p : Option ℕ). lefts_behind progress p lefts) there in
        record {
          text = w.text;
          is = subst (λ (q : List Item). SendsPart q lefts behind left w.text) (sym first)
              (subst (λ (b : List Item). SendsPart (item ∷ others) lefts b left w.text) (sym behind_is)
              (subst (λ (l : Lefts). SendsPart (item ∷ others) lefts (queue_behind progress (place_of item) others) l w.text) (sym left_is)
              (sends_part item others lefts progress w.text w.is)));
          wrote = w.wrote;
        }

    -- and takes fewer calls
    pub fewer_calls : (behind : List Item) → behind ≡ queue_behind progress place others → TakesFewer (calls_of item) progress
        → count_owed behind < count_owed queue
    fewer_calls behind is_behind h =
        subst (λ (q : List Item). count_owed behind < count_owed q) (sym first)
        (subst (λ (b : List Item). count_owed b < count_owed (item ∷ others)) (sym is_behind) (falls (calls_of item) others place progress h))

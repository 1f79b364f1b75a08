-- How far one call goes.
use Rattle.std.proofs.Common.{◌≡◌, ℕ, ◌+◌, ◌-◌, ◌^◌, ◌<◌, ◌≤◌, min, suc, List, [], ◌∷◌, ◌++◌, length, take, drop, map, Option, Some, None, refl, sym, ap, subst, ◌∙◌, inl, inr, append-nil, arith}
use Rattle.std.specs.Prelude.{IfSome}
use Rattle.std.specs.List.{concat}
use Rattle.std.proofs.lemmas.List.{take_all, drop-drop, length-map}
use Rattle.answer_core.specs.Answers.{AnswersUnsent, IsBelow, IsCutShort, Passes, SendsAll, SendsMore, Suspends}
use Rattle.answer_core.specs.Messages.{closing, cut_error, portal_suspended}
use Rattle.answer_core.specs.Remaining.{rows_to_come, item_count, item_rows, portal_closing, records_left, rows_left}
use Rattle.answer_core.specs.Replies.{unsent_of}
use Rattle.answer_core.specs.RowTexts.{record_row}
use Rattle.answer_core.specs.Steps.{asked_behind, asked_of, CanBeTold, StepsTo, step_text, StopsCallAt, stop_text}
use Rattle.answer_core.specs.declared.items.Items.{Items}
use Rattle.answer_core.specs.declared.records.Records.{Records}
use Rattle.answer_core.specs.declared.steps.RecordStep.{RecordStep}
use Rattle.answer_core.specs.declared.steps.RecordStep.TheVariants as steps
use Rattle.answer_core.specs.declared.steps.Stop.{Stop}
use Rattle.answer_core.specs.declared.steps.Stop.TheVariants as stops
use Rattle.answer_core.specs.declared.unsent.Frame.{Frame}
use Rattle.answer_core.specs.declared.unsent.Progress.{Progress}
use Rattle.answer_core.specs.declared.unsent.Progress.TheVariants as progresses
use Rattle.answer_core.specs.declared.unsent.Remainder.{Remainder}
use Rattle.answer_core.specs.declared.unsent.Remainder.TheVariants as remainders
use Rattle.answer_core.specs.declared.unsent.Unsent.{Unsent}
use Rattle.answer_core.proofs.Going.{more_answers, SendsSome}
use Rattle.answer_core.proofs.RowLemmas.{first_is, length-rows_behind}

-- ---- how many are asked for

-- no more than are asked for
within_asked : (most : Option ℕ) (left count : ℕ) → count ≤ asked_of most left → IfSome most (λ m. count ≤ m)
within_asked None left count h = tt
within_asked (Some m) left count h = omega arith

-- all of them are asked for
all_asked : (most : Option ℕ) (left : ℕ) → asked_of most left ≡ left → IfSome most (λ m. left ≤ m)
all_asked None left h = tt
all_asked (Some m) left h = omega arith

-- not all of them are asked for
some_asked : (most : Option ℕ) (left : ℕ) → asked_of most left < left → most ≡ Some (asked_of most left)
some_asked None left h = absurd (omega arith)
some_asked (Some m) left h =
    let same : m ≡ min m left = omega arith in
    ap (λ (n : ℕ). Some n) same

asked_fits : (most : Option ℕ) (left : ℕ) → asked_of most left ≤ left
asked_fits None left = omega arith
asked_fits (Some m) left = omega arith

-- one is asked for
one_asked : (most : Option ℕ) → 0 < asked_of most 1 → IfSome most (λ m. 1 ≤ m)
one_asked None h = tt
one_asked (Some m) h = omega arith

-- ---- lists

module _ (list : Items) (next : ℕ) (frame : Frame) (most : Option ℕ) (count : ℕ) where
  -- the rows of the list from a place on
  abbrev pub listed_rows : List (List ℕ)
  listed_rows = drop next (item_rows list frame.formats)

  abbrev pub listed : Unsent
  listed = unsent_of (remainders.Listed list next) frame most

  abbrev pub listed_behind : Remainder
  listed_behind = remainders.Listed list (next + count)

  -- how far the answer has come where a call stops
  abbrev pub stopped : Stop → Progress
  stopped stops.Later = progresses.Part (unsent_of listed_behind frame (asked_behind most count))
  stopped stops.Suspended = progresses.Suspended (record { remainder = listed_behind; frame = frame })
  stopped stops.Whole = progresses.Whole

  many : length listed_rows ≡ item_count list - next
  many = length-rows_behind list frame.formats next

  passes : Passes count (record { remainder = remainders.Listed list next; frame = frame }) (record { remainder = listed_behind; frame = frame })
  passes = record { rows = sym (drop-drop count next (item_rows list frame.formats)); closing = refl; kind = refl }

  abbrev pub stop_said : Stop → List ℕ
  stop_said stop = concat (take count listed_rows) ++ stop_text frame (item_count list) stop

  pub stopped_sends : (stop : Stop) → StopsCallAt (asked_of most (item_count list - next)) (item_count list - next) count stop → SendsMore listed (stopped stop) (stop_said stop)
  stopped_sends stops.Later at = λ rest left told.
      let fits : count ≤ length listed_rows = omega (arith, at.1, asked_fits most (item_count list - next), many) in
      let v = unsent_of listed_behind frame (asked_behind most count) in
      let s : SendsSome count listed v = record {
        passes = passes;
        fits = fits;
        within = within_asked most (item_count list - next) count (omega (arith, at.1));
        behind = refl;
      } in
      subst (λ (t : List ℕ). AnswersUnsent listed (t ++ rest) left) (sym (append-nil (concat (take count listed_rows)))) (more_answers count listed v s rest left told)
  stopped_sends stops.Suspended at =
      let left = item_count list - next in
      let sus : Suspends listed (stop_said stops.Suspended) (Some (record { remainder = listed_behind; frame = frame })) = record {
        most = count;
        asked = some_asked most left at.1 ∙ ap (λ (n : ℕ). Some n) (sym at.0);
        more = omega (arith, at.0, at.1, many);
        said = refl;
        portal = record { remainder = listed_behind; frame = frame };
        passes = passes;
        kept = refl;
      } in
      inr (inl sus)
  stopped_sends stops.Whole at =
      let left = item_count list - next in
      let every : length listed_rows ≤ count = omega (arith, at.0, at.1, many) in
      let asked : IfSome most (λ m. length listed_rows ≤ m) = subst (λ (n : ℕ). IfSome most (λ m. n ≤ m)) (sym many) (all_asked most left at.1) in
      let all : SendsAll listed (stop_said stops.Whole) None = record {
        asked = asked;
        said = ap (λ (l : List (List ℕ)). concat l ++ closing frame.tag (item_count list) frame.at.0) (take_all count listed_rows every);
        none = refl;
      } in
      inl all

  pub stopped_below : (stop : Stop) → StopsCallAt (asked_of most (item_count list - next)) (item_count list - next) count stop → IsBelow (rows_to_come listed) (stopped stop)
  stopped_below stops.Later at =
      omega (arith, at.0, at.1, asked_fits most (item_count list - next), many, length-rows_behind list frame.formats (next + count))
  stopped_below stops.Suspended at = tt
  stopped_below stops.Whole at = tt

  -- the same at a call, where others come later
  module _ (stop : Stop) (at : StopsCallAt (asked_of most (item_count list - next)) (item_count list - next) count stop)
      (is : stop ≡ stops.Later) (m : Option ℕ) (behind : m ≡ asked_behind most count) where
    pub later_sends : SendsMore listed (progresses.Part (unsent_of listed_behind frame m)) (stop_said stop)
    later_sends =
        let sends : SendsMore listed (stopped stops.Later) (stop_said stop) =
        subst (λ (s : Stop). SendsMore listed (stopped s) (stop_said stop)) is (stopped_sends stop at) in
        subst (λ (o : Option ℕ). SendsMore listed (progresses.Part (unsent_of listed_behind frame o)) (stop_said stop)) (sym behind) sends

    pub later_below : IsBelow (rows_to_come listed) (progresses.Part (unsent_of listed_behind frame m))
    later_below = subst (λ (s : Stop). IsBelow (rows_to_come listed) (stopped s)) is (stopped_below stop at)

  pub stopped_is : (stop other : Stop) → StopsCallAt (asked_of most (item_count list - next)) (item_count list - next) count stop → stop ≡ other
      → SendsMore listed (stopped other) (stop_said stop)
  stopped_is stop other at is = subst (λ (s : Stop). SendsMore listed (stopped s) (stop_said stop)) is (stopped_sends stop at)

-- ---- exports

-- a step can be told
pub can_be_told : (most : Option ℕ) (sent : ℕ) (old new : Records) (step : RecordStep) → StepsTo most sent old new step → CanBeTold step
can_be_told most sent old new (steps.Next line) h = h.3
can_be_told most sent old new steps.Suspended h = tt
can_be_told most sent old new steps.Whole h = tt
can_be_told most sent old new steps.Cut h = tt

module _ (most : Option ℕ) (sent : ℕ) (frame : Frame) (old new : Records) where
  abbrev pub exported : Unsent
  exported = unsent_of (remainders.Export old sent) frame most

  -- how far the answer has come behind a step
  abbrev pub stepped : RecordStep → Progress
  stepped (steps.Next line) = progresses.Part (unsent_of (remainders.Export new (sent + 1)) frame (asked_behind most 1))
  stepped steps.Suspended = progresses.Suspended (record { remainder = remainders.Export new sent; frame = frame })
  stepped steps.Whole = progresses.Whole
  stepped steps.Cut = progresses.Whole

  next_passes : (line : List ℕ) → records_left old ≡ line ∷ records_left new
      → Passes 1 (record { remainder = remainders.Export old sent; frame = frame }) (record { remainder = remainders.Export new (sent + 1); frame = frame })
  next_passes line is =
      let same : (sent + 1) + length (records_left new) ≡ sent + length (records_left old) = omega (arith, ap length is) in
      record {
        rows = sym (ap (λ (l : List (List ℕ)). drop 1 (map record_row l)) is);
        closing = ap (λ (n : ℕ). closing frame.tag n frame.at.0) same;
        kind = refl;
      }

  suspended_passes : records_left new ≡ records_left old
      → Passes 0 (record { remainder = remainders.Export old sent; frame = frame }) (record { remainder = remainders.Export new sent; frame = frame })
  suspended_passes same = record {
    rows = ap (map record_row) same;
    closing = ap (λ (l : List (List ℕ)). closing frame.tag (sent + length l) frame.at.0) same;
    kind = refl;
  }

  pub stepped_sends : (step : RecordStep) → StepsTo most sent old new step → SendsMore exported (stepped step) (step_text frame sent step)
  stepped_sends (steps.Next line) h = λ rest left told.
      let is : records_left old ≡ line ∷ records_left new = first_is (records_left old) line h.0 ∙ ap (λ (l : List (List ℕ)). line ∷ l) (sym h.1) in
      let many : length (rows_left exported.portal) ≡ suc (length (records_left new)) = length-map (records_left old) record_row ∙ ap length is in
      let v = unsent_of (remainders.Export new (sent + 1)) frame (asked_behind most 1) in
      let s : SendsSome 1 exported v = record {
        passes = next_passes line is;
        fits = omega (arith, many);
        within = one_asked most h.2;
        behind = refl;
      } in
      let one : concat (take 1 (rows_left exported.portal)) ≡ record_row line =
      ap (λ (l : List (List ℕ)). concat (take 1 (map record_row l))) is ∙ append-nil (record_row line) in
      subst (λ (t : List ℕ). AnswersUnsent exported (t ++ rest) left) one (more_answers 1 exported v s rest left told)
  stepped_sends steps.Suspended h =
      let sus : Suspends exported portal_suspended (Some (record { remainder = remainders.Export new sent; frame = frame })) = record {
        most = 0;
        asked = h.0;
        more = omega (arith, h.1, length-map (records_left old) record_row);
        said = refl;
        portal = record { remainder = remainders.Export new sent; frame = frame };
        passes = suspended_passes h.2;
        kept = refl;
      } in
      inr (inl sus)
  stepped_sends steps.Whole h =
      let none : map record_row (records_left old) ≡ [] = ap (map record_row) h in
      let asked : IfSome most (λ m. length (map record_row (records_left old)) ≤ m) =
      subst (λ (l : List (List ℕ)). IfSome most (λ m. length l ≤ m)) (sym none) (within_asked most 0 0 (omega arith)) in
      let count : sent ≡ sent + length (records_left old) = omega (arith, ap length h) in
      let all : SendsAll exported (step_text frame sent steps.Whole) None = record {
        asked = asked;
        said = ap (λ (n : ℕ). closing frame.tag n frame.at.0) count
            ∙ ap (λ (l : List (List ℕ)). concat l ++ portal_closing exported.portal) (sym none);
        none = refl;
      } in
      inl all
  stepped_sends steps.Cut h =
      let cut : IsCutShort exported cut_error None = record {
        export = refl;
        sent = 0;
        fewer = omega (arith, h, length-map (records_left old) record_row);
        asked = within_asked most 0 0 (omega arith);
        said = refl;
        none = refl;
      } in
      inr (inr cut)

  pub stepped_below : (step : RecordStep) → StepsTo most sent old new step → IsBelow (rows_to_come exported) (stepped step)
  stepped_below (steps.Next line) h =
      let is : records_left old ≡ line ∷ records_left new = first_is (records_left old) line h.0 ∙ ap (λ (l : List (List ℕ)). line ∷ l) (sym h.1) in
      omega (arith, ap length is, length-map (records_left old) record_row, length-map (records_left new) record_row)
  stepped_below steps.Suspended h = tt
  stepped_below steps.Whole h = tt
  stepped_below steps.Cut h = tt

  -- the same at a call that sends a record
  module _ (step : RecordStep) (h : StepsTo most sent old new step) (line : List ℕ)
      (is : step ≡ steps.Next line) (m : Option ℕ) (behind : m ≡ asked_behind most 1) where
    pub next_sends : SendsMore exported (progresses.Part (unsent_of (remainders.Export new (sent + 1)) frame m)) (step_text frame sent step)
    next_sends =
        let sends : SendsMore exported (stepped (steps.Next line)) (step_text frame sent step) =
        subst (λ (s : RecordStep). SendsMore exported (stepped s) (step_text frame sent step)) is (stepped_sends step h) in
        subst (λ (o : Option ℕ). SendsMore exported (progresses.Part (unsent_of (remainders.Export new (sent + 1)) frame o)) (step_text frame sent step)) (sym behind) sends

    pub next_below : IsBelow (rows_to_come exported) (progresses.Part (unsent_of (remainders.Export new (sent + 1)) frame m))
    next_below = subst (λ (s : RecordStep). IsBelow (rows_to_come exported) (stepped s)) is (stepped_below step h)

  pub stepped_is : (step other : RecordStep) → StepsTo most sent old new step → step ≡ other → SendsMore exported (stepped other) (step_text frame sent step)
  stepped_is step other h is = subst (λ (s : RecordStep). SendsMore exported (stepped s) (step_text frame sent step)) is (stepped_sends step h)

  pub next_counts : (step : RecordStep) → StepsTo most sent old new step → (line : List ℕ) → step ≡ steps.Next line → sent + 1 < 2 ^ 64
  next_counts step h line is =
      let moved : StepsTo most sent old new (steps.Next line) = subst (λ (s : RecordStep). StepsTo most sent old new s) is h in
      moved.4

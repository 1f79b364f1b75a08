-- What a ticket's fields stand for, step by step.
use Rattle.std.proofs.Common.{◌≡◌, ℕ, ◌+◌, ◌<◌, Bool, true, false, if◌then◌else◌, length, get_or, List, [], ◌∷◌, ◌++◌, take, drop, Option, Some, None, refl, sym, ap, ◌∙◌, arith, add-zero}
use Rattle.std.specs.List.{slice_get, flat_map}
use Rattle.std.specs.Arc.{arc_value}
use Rattle.std.proofs.lemmas.Option.{MatchOption-at_some, MatchOption-at_none, slice_get_within, none-some, slice_get-get_or}
use Rattle.std.proofs.lemmas.Bool.{false_from_ne_true}
use Rattle.capture_core.specs.declared.image.TableImage.{TableImage}
use Rattle.export_core.specs.Export.{end_line}
use Rattle.export_core.specs.Ticket.{TicketState, after_giving}
use Rattle.export_core.specs.Walk.{judged_tables, told_of_table, all_records, count_given, exporting, IsUnderWay}
use Rattle.export_core.specs.declared.judgement.Judgement.{Judgement}
use Rattle.export_core.specs.declared.judgement.Judgement.TheVariants.{Listed, WithheldThen, WithheldNow}
use Rattle.export_core.specs.declared.walk.Walk.TheInside.{Inside}
use Rattle.export_core.proofs.Giving.{gives_nothing, none_left, something_left}
use Rattle.export_core.proofs.Places.{slice_get-append_left, slice_get-append_right, slice_get-drop, slice_get-flat_map, slice_get-zip, slice_get-zip_past, slice_get-index, take_next, take_past, drop_next, length-flat_map_next, MatchOption-some, MatchOption-each}

-- a list of which n items were given
abbrev parts : TicketState → List (List ℕ) → ℕ → TicketState
parts e all n = record e { given = take n all; to_come = drop n all }

-- one item more
gave_one : (e : TicketState) (all : List (List ℕ)) (n : ℕ) (line : List ℕ) → slice_get all n ≡ Some line → parts e all (n + 1) ≡ after_giving 1 (parts e all n)
gave_one e all n line found =
    let rest = drop_next all n line found in
    let front : take n all ++ take 1 (drop n all) ≡ take (n + 1) all = ap (λ l. take n all ++ take 1 l) rest ∙ sym (take_next all n line found) in
    let behind : drop 1 (drop n all) ≡ drop (n + 1) all = ap (drop 1) rest in
    sym (ap (λ l. record e { given = l; to_come = drop 1 (drop n all) }) front ∙ ap (λ l. record e { given = take (n + 1) all; to_come = l }) behind)

-- the ticket after one more line, whichever fields count it
pub gave : (t : Inside) (told lines : ℕ) (ended : Bool) (line : List ℕ) → slice_get (all_records t) (count_given t) ≡ Some line
    → count_given (record t { told = told; lines = lines; ended = ended }) ≡ count_given t + 1
    → exporting (record t { told = told; lines = lines; ended = ended }) ≡ after_giving 1 (exporting t)
gave t told lines ended line found count =
    ap (parts (exporting t) (all_records t)) count ∙ gave_one (exporting t) (all_records t) (count_given t) line found

-- the next line is the first of those to come
pub comes_next : (t : Inside) (line : Option (List ℕ)) → slice_get (all_records t) (count_given t) ≡ line → slice_get (exporting t).to_come 0 ≡ line
comes_next t line found =
    let here : count_given t + 0 ≡ count_given t = omega arith in
    slice_get-drop (all_records t) (count_given t) 0 ∙ ap (slice_get (all_records t)) here ∙ found

-- where the ticket stands
module _ (t : Inside) (way : IsUnderWay t) where
  -- before a line of a table
  module _ (pair : TableImage × Judgement) (here : slice_get (judged_tables t) t.told ≡ Some pair) where
    pub within : t.lines < length (told_of_table pair)
    within = MatchOption-at_some (t.lines ≡ 0) (λ p. t.lines < length (told_of_table p)) pair here way.next

    pub table_line_comes : (line : List ℕ) → t.ended ≡ false → slice_get (told_of_table pair) t.lines ≡ Some line → slice_get (all_records t) (count_given t) ≡ Some line
    table_line_comes line open' found =
        let before = length (flat_map told_of_table (take t.told (judged_tables t))) in
        let place : count_given t ≡ before + t.lines = ap (λ b. before + t.lines + (if b then 1 else 0)) open' ∙ add-zero (before + t.lines) in
        ap (slice_get (all_records t)) place
        ∙ slice_get-append_left (flat_map told_of_table (judged_tables t)) (end_line (arc_value t.image).number ∷ []) (before + t.lines) line
        (slice_get-flat_map told_of_table (judged_tables t) t.told t.lines pair line here found)

    pub next_line_counts : (lines : ℕ) → lines ≡ t.lines + 1 → count_given (record t { lines = lines }) ≡ count_given t + 1
    next_line_counts lines next = omega (arith, next)

    pub next_table_counts : t.lines + 1 ≡ length (told_of_table pair) → count_given (record t { told = t.told + 1; lines = 0 }) ≡ count_given t + 1
    next_table_counts last = omega (arith, last, length-flat_map_next told_of_table (judged_tables t) t.told pair here)

  -- before the end
  module _ (here : slice_get (judged_tables t) t.told ≡ None) where
    all_told : length (flat_map told_of_table (take t.told (judged_tables t))) + t.lines ≡ length (flat_map told_of_table (judged_tables t)) + 0
    all_told =
        ap (λ l. length (flat_map told_of_table l) + t.lines) (take_past (judged_tables t) t.told here)
        ∙ ap (λ n. length (flat_map told_of_table (judged_tables t)) + n) (MatchOption-at_none (t.lines ≡ 0) (λ p. t.lines < length (told_of_table p)) here way.next)

    pub end_comes : t.ended ≡ false → slice_get (all_records t) (count_given t) ≡ Some (end_line (arc_value t.image).number)
    end_comes open' =
        let place : count_given t ≡ length (flat_map told_of_table (judged_tables t)) + 0 = ap (λ b. length (flat_map told_of_table (take t.told (judged_tables t))) + t.lines + (if b then 1 else 0)) open' ∙ add-zero _ ∙ all_told in
        ap (slice_get (all_records t)) place ∙ slice_get-append_right (flat_map told_of_table (judged_tables t)) (end_line (arc_value t.image).number ∷ []) 0

    pub end_counts : t.ended ≡ false → count_given (record t { ended = true }) ≡ count_given t + 1
    end_counts open' =
        let place : count_given t ≡ length (flat_map told_of_table (take t.told (judged_tables t))) + t.lines + 0 = ap (λ b. length (flat_map told_of_table (take t.told (judged_tables t))) + t.lines + (if b then 1 else 0)) open' in
        omega (arith, place)

  -- behind the end
  pub nothing_comes : t.ended ≡ true → slice_get (all_records t) (count_given t) ≡ None
  nothing_comes over =
      let here = way.end over in
      let further : length (flat_map told_of_table (judged_tables t)) + 0 + 1 ≡ length (flat_map told_of_table (judged_tables t)) + 1 = omega arith in
      let place : count_given t ≡ length (flat_map told_of_table (judged_tables t)) + 1 =
      ap (λ b. length (flat_map told_of_table (take t.told (judged_tables t))) + t.lines + (if b then 1 else 0)) over ∙ ap (λ n. n + 1) (all_told here) ∙ further in
      ap (slice_get (all_records t)) place ∙ slice_get-append_right (flat_map told_of_table (judged_tables t)) (end_line (arc_value t.image).number ∷ []) 1

-- each table is told in a line at least
pub told-some : (pair : TableImage × Judgement) → 0 < length (told_of_table pair)
told-some (table, Listed marks) = omega arith
told-some (table, WithheldThen) = omega arith
told-some (table, WithheldNow) = omega arith

-- the table and the judgement at which the ticket stands, or none
module _ (t : Inside) (way : IsUnderWay t) where
  pub stands_at : (table : TableImage) (judgement : Judgement) → slice_get t.judgements.items t.told ≡ Some judgement
      → table ≡ get_or (arc_value t.image).tables (t.first + t.told) table → slice_get (judged_tables t) t.told ≡ Some (table, judgement)
  stands_at table judgement found read =
      let within : t.told < length t.judgements.items = slice_get_within t.judgements.items t.told judgement found in
      let below : t.first + t.told < length (arc_value t.image).tables = omega (arith, way.fits, within) in
      slice_get-zip (drop t.first (arc_value t.image).tables) t.judgements.items t.told table judgement
      (slice_get-drop (arc_value t.image).tables t.first t.told ∙ slice_get-index (arc_value t.image).tables (t.first + t.told) table read below)
      found

  pub stands_at_none : slice_get t.judgements.items t.told ≡ None → slice_get (judged_tables t) t.told ≡ None
  stands_at_none none = slice_get-zip_past (drop t.first (arc_value t.image).tables) t.judgements.items t.told none

  pub on_way_in_table : (pair : TableImage × Judgement) (lines : ℕ) → slice_get (judged_tables t) t.told ≡ Some pair → lines < length (told_of_table pair) → IsUnderWay (record t { lines = lines })
  on_way_in_table pair lines here below = record {
    fits = way.fits;
    next = MatchOption-some _ (lines ≡ 0) (λ p. lines < length (told_of_table p)) pair here below;
    end = way.end;
  }

  -- before a table's record the end was not given
  pub not_ended : (pair : TableImage × Judgement) → slice_get (judged_tables t) t.told ≡ Some pair → t.ended ≡ false
  not_ended pair here = false_from_ne_true t.ended (λ over. none-some pair (sym (way.end over) ∙ here))

  pub on_way_to_next : (pair : TableImage × Judgement) → slice_get (judged_tables t) t.told ≡ Some pair → IsUnderWay (record t { told = t.told + 1; lines = 0 })
  on_way_to_next pair here = record {
    fits = way.fits;
    next = MatchOption-each (slice_get (judged_tables t) (t.told + 1)) (0 ≡ 0) (λ p. 0 < length (told_of_table p)) refl told-some;
    end = λ over. let open' = not_ended pair here in cc;
  }

  pub on_way_ended : slice_get (judged_tables t) t.told ≡ None → IsUnderWay (record t { ended = true })
  on_way_ended here = record { fits = way.fits; next = way.next; end = λ over. here }

  -- one more record was given: one of a table that is not its last, its last, or the end
  module _ (pair : TableImage × Judgement) (here : slice_get (judged_tables t) t.told ≡ Some pair) where
    abbrev line : List ℕ
    line = get_or (told_of_table pair) t.lines []

    comes : slice_get (all_records t) (count_given t) ≡ Some line
    comes = table_line_comes t way pair here line (not_ended pair here) (slice_get-get_or (told_of_table pair) t.lines [] (within t way pair here))

    pub passed_line : (lines : ℕ) → lines ≡ t.lines + 1 → exporting (record t { lines = lines }) ≡ after_giving 1 (exporting t)
    passed_line lines next = gave t t.told lines t.ended line comes (next_line_counts t way pair here lines next)

    pub passed_table : t.lines + 1 ≡ length (told_of_table pair) → exporting (record t { told = t.told + 1; lines = 0 }) ≡ after_giving 1 (exporting t)
    passed_table last = gave t (t.told + 1) 0 t.ended line comes (next_table_counts t way pair here last)

  -- before the end some record comes
  something_comes : t.ended ≡ false → (line : List ℕ) × (slice_get (exporting t).to_come 0 ≡ Some line)
  something_comes open' = elim (slice_get (judged_tables t) t.told) as (λ o. slice_get (judged_tables t) t.told ≡ o → (line : List ℕ) × (slice_get (exporting t).to_come 0 ≡ Some line)) [
    | None ↦ (λ here. (end_line (arc_value t.image).number, comes_next t (Some (end_line (arc_value t.image).number)) (end_comes t way here open')))
    | Some pair ↦ (λ here. (line pair here, comes_next t (Some (line pair here)) (comes pair here)))
  ] refl

  -- nothing is to come exactly where the end was given
  pub over_ends : t.ended ≡ true → (exporting t).to_come ≡ []
  over_ends over = none_left (exporting t).to_come (comes_next t None (nothing_comes t way over))

  pub ends_over : (exporting t).to_come ≡ [] → t.ended ≡ true
  ends_over none = elim (t.ended) as (λ b. t.ended ≡ b → b ≡ true) [
    | true ↦ (λ over. refl)
    | false ↦ (λ open'. let next = something_comes open' in absurd (something_left (exporting t).to_come next.0 next.1 none))
  ] refl

  pub passed_end : slice_get (judged_tables t) t.told ≡ None → exporting (record t { ended = true }) ≡ after_giving 1 (exporting t)
  passed_end here = elim (t.ended) as (λ b. t.ended ≡ b → exporting (record t { ended = true }) ≡ after_giving 1 (exporting t)) [
    | true ↦ (λ over. ap (λ b. exporting (record t { ended = b })) (sym over) ∙ gives_nothing (exporting t) (comes_next t None (nothing_comes t way over)))
    | false ↦ (λ open'. gave t t.told t.lines true (end_line (arc_value t.image).number) (end_comes t way here open') (end_counts t way here open'))
  ] refl

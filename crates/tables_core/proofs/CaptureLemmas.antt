-- What a change to one table makes of what all have to give, and what a step makes of it.
use Rattle.std.proofs.Common.{◌≡◌, ◌≢◌, ◌≤◌, ◌<◌, ◌+◌, ◌-◌, ◌%◌, ◌^◌, ℕ, zero, suc, min, Bool, true, false, cond, List, [], ◌∷◌, Some, length, map, take, drop, set, get_or, slice_get, refl, sym, ap, subst, ◌∙◌, arith, add-one, length-append}
use Rattle.std.specs.List.{sum_by}
use Rattle.std.specs.Map.{lookup, set_value, values_of}
use Rattle.std.proofs.lemmas.Bool.{eq-eqb, ne_eqb}
use Rattle.std.proofs.Math.Dec.{eqb}
use Rattle.std.proofs.lemmas.List.{length-map, length-drop, drop-map, take_all, nil_from_length}
use Rattle.std.proofs.lemmas.List.Sums.{sum_by-cons}
use Rattle.std.proofs.lemmas.Map.{length-set_value}
use Rattle.std.proofs.lemmas.Map.Entries.{sum_by-set_value}
use Rattle.indexmap.specs.IndexMap.{set_value_at}
use Rattle.indexmap.specs.Layout.{length-set_value_at}
use Rattle.base_core.specs.declared.name.Name.{Name}
use Rattle.base_core.specs.declared.value.Row.{Row}
use Rattle.tables_core.specs.declared.walk.Walk.{Walk}
use Rattle.tables_core.specs.Contents.{Table, all_rows, rows_by_table}
use Rattle.tables_core.specs.Capture.{StoredTable, KeepsDue, IsWalk, CapturesUpTo, due_for, still_due, rest_in, shown_tables}

-- a table that was found is the one there
some-same : {A : Type 0} (x y : A) → Some x ≡ Some y → x ≡ y
some-same x y e = cc

-- a table whose own capture was begun for this one
pub due-joined : (n : ℕ) (t : StoredTable) → t.capture ≡ n → due_for n t ≡ t.due
due-joined n t q = rw (eq-eqb t.capture n q)

-- a table whose own capture was begun for an earlier one
due-new : (n : ℕ) (t : StoredTable) → t.capture ≤ n → due_for (n + 1) t ≡ t.contents.rows
due-new n t le = let ne : t.capture ≢ n + 1 = λ q. absurd (omega arith) in rw (ne_eqb t.capture (n + 1) ne)

-- ---- what is left of each table
-- what a table has to give for the capture of this number, without the numbers of the rows
abbrev pub due_rows : ℕ → Name × StoredTable → List Row
due_rows n t = values_of (due_for n t.1)

-- with rows left each table gives what it has to give, and with none left nothing
still-some : (w : Walk) (t : StoredTable) → 0 < w.left → still_due w t ≡ values_of (due_for w.number t)
still-some w t some = let ne : w.left ≢ 0 = λ q. absurd (omega arith) in ap (λ b. cond b [] (values_of (due_for w.number t))) (ne_eqb w.left 0 ne)

still-none : (w : Walk) (t : StoredTable) → w.left ≡ 0 → still_due w t ≡ []
still-none w t none = ap (λ n. cond (eqb n 0) [] (values_of (due_for w.number t))) none

rest-some : (w : Walk) (ts : List (Name × StoredTable)) → 0 < w.left → rest_in w ts ≡ map (due_rows w.number) (take w.end ts)
rest-some w ts some = each (take w.end ts)
  where
    each : (us : List (Name × StoredTable)) → map (λ t. still_due w t.1) us ≡ map (due_rows w.number) us
    each [] = refl
    each (t ∷ us) = ap (λ l. l ∷ map (λ k. still_due w k.1) us) (still-some w t.1 some) ∙ ap (λ l. due_rows w.number t ∷ l) (each us)

-- where a walk counts what the tables have to give, it gives that
rest-counted : (w : Walk) (ts : List (Name × StoredTable)) → w.left ≡ sum_by length (map (due_rows w.number) (take w.end ts)) → rest_in w ts ≡ map (due_rows w.number) (take w.end ts)
rest-counted w ts counted = by w.left refl
  where
    none : w.left ≡ 0 → (us : List (Name × StoredTable)) → sum_by length (map (due_rows w.number) us) ≡ 0 → map (λ t. still_due w t.1) us ≡ map (due_rows w.number) us
    none gone [] few = refl
    none gone (t ∷ us) few =
        let sums = sum_by-cons (length {A = Row}) (due_rows w.number t) (map (due_rows w.number) us) in
        let first : due_rows w.number t ≡ [] = nil_from_length (due_rows w.number t) (omega arith) in
        ap (λ l. l ∷ map (λ k. still_due w k.1) us) (still-none w t.1 gone ∙ sym first) ∙ ap (λ l. due_rows w.number t ∷ l) (none gone us (omega arith))

    by : (n : ℕ) → w.left ≡ n → rest_in w ts ≡ map (due_rows w.number) (take w.end ts)
    by zero gone = none gone (take w.end ts) (sym counted ∙ gone)
    by (suc n) some = rest-some w ts (omega arith)

-- ---- one table gives its first rows
-- what all have to give, where the list at one place loses its first items
pub sum-rows_given : (rest : List (List Row)) (i k : ℕ) → sum_by length (set rest i (drop k (get_or rest i []))) + min k (length (get_or rest i [])) ≡ sum_by length rest
sum-rows_given [] i k = omega arith
sum-rows_given (x ∷ xs) zero k =
    let before = sum_by-cons (length {A = Row}) x xs in
    let after = sum_by-cons (length {A = Row}) (drop k x) xs in
    let dropped = length-drop k x in
    omega arith
sum-rows_given (x ∷ xs) (suc i) k =
    let before = sum_by-cons (length {A = Row}) x xs in
    let after = sum_by-cons (length {A = Row}) x (set xs i (drop k (get_or xs i []))) in
    let later = sum-rows_given xs i k in
    omega arith

-- a table is written at its place
module _ (n : ℕ) (t : Name × StoredTable) (y : StoredTable) where
  -- with as much to give
  put-same : (f : StoredTable → List Row) (to : ℕ) (ts : List (Name × StoredTable)) (i : ℕ) → slice_get ts i ≡ Some t → f y ≡ f t.1 → map (λ k. f k.1) (take to (set_value_at ts i y)) ≡ map (λ k. f k.1) (take to ts)
  put-same f to [] i is h = refl
  put-same f zero (x ∷ ts) zero is h = refl
  put-same f zero (x ∷ ts) (suc i) is h = refl
  put-same f (suc to) (x ∷ ts) zero is h = ap (λ l. l ∷ map (λ k. f k.1) (take to ts)) (h ∙ ap (λ (e : Name × StoredTable). f e.1) (sym (some-same x t is)))
  put-same f (suc to) (x ∷ ts) (suc i) is h = ap (λ l. f x.1 ∷ l) (put-same f to ts i is h)

  put-due : (to : ℕ) (ts : List (Name × StoredTable)) (i : ℕ) → i < to → slice_get ts i ≡ Some t → map (due_rows n) (take to (set_value_at ts i y)) ≡ set (map (due_rows n) (take to ts)) i (values_of (due_for n y))
  put-due to [] i lt is = let no : ⊥ = cc in absurd no
  put-due zero (x ∷ ts) i lt is = absurd (omega arith)
  put-due (suc to) (x ∷ ts) zero lt is = refl
  put-due (suc to) (x ∷ ts) (suc i) lt is = ap (λ l. due_rows n x ∷ l) (put-due to ts i (omega arith) is)

  at-due : (to : ℕ) (ts : List (Name × StoredTable)) (i : ℕ) → i < to → slice_get ts i ≡ Some t → get_or (map (due_rows n) (take to ts)) i [] ≡ due_rows n t
  at-due to [] i lt is = let no : ⊥ = cc in absurd no
  at-due zero (x ∷ ts) i lt is = absurd (omega arith)
  at-due (suc to) (x ∷ ts) zero lt is = ap (due_rows n) (some-same x t is)
  at-due (suc to) (x ∷ ts) (suc i) lt is = at-due to ts i (omega arith) is

  pub captures-put : (ts : List (Name × StoredTable)) (i : ℕ) → y.capture ≤ n → CapturesUpTo n ts → CapturesUpTo n (set_value_at ts i y)
  captures-put [] i le h = h
  captures-put (x ∷ ts) zero le h = (le, h.1)
  captures-put (x ∷ ts) (suc i) le h = (h.0, captures-put ts i le h.1)

  pub shown-put : (ts : List (Name × StoredTable)) (i : ℕ) → slice_get ts i ≡ Some t → y.contents ≡ t.1.contents → shown_tables (set_value_at ts i y) ≡ shown_tables ts
  shown-put [] i is e = refl
  shown-put (x ∷ ts) zero is e = ap (λ (k : Table). (x.0, k) ∷ shown_tables ts) (e ∙ ap (λ (s : Name × StoredTable). s.1.contents) (sym (some-same x t is)))
  shown-put (x ∷ ts) (suc i) is e = ap (λ l. (x.0, x.1.contents) ∷ l) (shown-put ts i is e)

-- a change that keeps what a table has to give
still-kept : (w : Walk) (x y : StoredTable) → KeepsDue w x y → still_due w y ≡ still_due w x
still-kept w x y kept = by w.left refl
  where
    by : (n : ℕ) → w.left ≡ n → still_due w y ≡ still_due w x
    by zero gone = still-none w y gone ∙ sym (still-none w x gone)
    by (suc n) some = let left : 0 < w.left = omega arith in still-some w y left ∙ ap values_of (kept.due left) ∙ sym (still-some w x left)

-- a table that a capture has come to
module _ (w : Walk) (total : ℕ) (ts : List (Name × StoredTable)) (i : ℕ) (t : Name × StoredTable) (y : StoredTable)
    (s : IsWalk ts w total) (left : 0 < w.left) (lt : i < w.end) (is : slice_get ts i ≡ Some t)
    (joined : y.capture ≡ w.number) (same : y.contents ≡ t.1.contents) where
  -- what it has to give
  pub rest-there : get_or (rest_in w ts) i [] ≡ values_of (due_for w.number t.1)
  rest-there = ap (λ l. get_or l i []) (rest-some w ts left) ∙ at-due w.number t y w.end ts i lt is

  written : (v : Walk) → v.number ≡ w.number → v.end ≡ w.end → v.left ≡ sum_by length (rest_in v (set_value_at ts i y)) → IsWalk (set_value_at ts i y) v total
  written v number end left_is = record {
    captures = subst (λ m. CapturesUpTo m (set_value_at ts i y)) (sym number) (captures-put w.number t y ts i (omega arith) s.captures);
    within = let long = length-set_value_at ts i y in let k = s.within in omega arith;
    left_is = left_is;
    total_is = s.total_is ∙ ap (λ l. length (all_rows l) % 2 ^ 64) (sym (shown-put w.number t y ts i is same));
  }

  -- it gave nothing
  module _ (kept : y.due ≡ due_for w.number t.1) where
    pub rest-joined : rest_in w (set_value_at ts i y) ≡ rest_in w ts
    rest-joined = put-same w.number t y (still_due w) w.end ts i is (still-kept w t.1 y (record { capture = λ h. omega arith; due = λ h. due-joined w.number y joined ∙ kept }))

    pub walk-joined : IsWalk (set_value_at ts i y) w total
    walk-joined = written w refl refl (s.left_is ∙ ap (λ l. sum_by length l) (sym rest-joined))

  -- it gave its first rows, at most k
  module _ (k given : ℕ) (gone : y.due ≡ drop k (due_for w.number t.1)) (count : given ≡ min k (length (due_for w.number t.1))) where
    few : length (get_or (rest_in w ts) i []) ≡ length (due_for w.number t.1)
    few = ap length rest-there ∙ length-map (due_for w.number t.1) (λ (e : ℕ × Row). e.1)

    pub given-left : given ≤ w.left
    given-left = let sums = sum-rows_given (rest_in w ts) i k in let all = s.left_is in let long = few in omega arith

    now_due : map (due_rows w.number) (take w.end (set_value_at ts i y)) ≡ set (rest_in w ts) i (drop k (get_or (rest_in w ts) i []))
    now_due =
        let value : ℕ × Row → Row = λ e. e.1 in
        let here : values_of (due_for w.number y) ≡ drop k (get_or (rest_in w ts) i []) =
        ap values_of (due-joined w.number y joined ∙ gone) ∙ sym (drop-map value k (due_for w.number t.1)) ∙ ap (drop k) (sym rest-there) in
        put-due w.number t y w.end ts i lt is ∙ ap (λ l. set l i (values_of (due_for w.number y))) (sym (rest-some w ts left)) ∙ ap (set (rest_in w ts) i) here

    counted : w.left - given ≡ sum_by length (map (due_rows w.number) (take w.end (set_value_at ts i y)))
    counted = let sums = sum-rows_given (rest_in w ts) i k in let all = s.left_is in let long = few in let now = ap (λ l. sum_by length l) now_due in omega arith

    pub rest-given : rest_in (record { number = w.number; end = w.end; left = w.left - given }) (set_value_at ts i y) ≡ set (rest_in w ts) i (drop k (get_or (rest_in w ts) i []))
    rest-given = rest-counted (record { number = w.number; end = w.end; left = w.left - given }) (set_value_at ts i y) counted ∙ now_due

    pub walk-given : IsWalk (set_value_at ts i y) (record { number = w.number; end = w.end; left = w.left - given }) total
    walk-given = written (record { number = w.number; end = w.end; left = w.left - given }) refl refl (counted ∙ ap (λ l. sum_by length l) (now_due ∙ sym rest-given))

-- ---- a new capture
-- each table has all its rows to give
pub due-all : (n : ℕ) (ts : List (Name × StoredTable)) → CapturesUpTo n ts → map (λ t. values_of (due_for (n + 1) t.1)) ts ≡ rows_by_table (shown_tables ts)
due-all n [] h = refl
due-all n (t ∷ ts) h = ap (λ l. values_of l ∷ map (due_rows (n + 1)) ts) (due-new n t.1 h.0) ∙ ap (λ l. values_of t.1.contents.rows ∷ l) (due-all n ts h.1)

pub captures-more : (n : ℕ) (ts : List (Name × StoredTable)) → CapturesUpTo n ts → CapturesUpTo (n + 1) ts
captures-more n [] h = tt
captures-more n (t ∷ ts) h = (let k = h.0 in omega arith, captures-more n ts h.1)

-- one more table without a capture
captures-take_suc : (t : Name × StoredTable) (y : StoredTable) (ts : List (Name × StoredTable)) (i : ℕ) → slice_get ts i ≡ Some t → y.capture ≤ 0 → CapturesUpTo 0 (take i ts) → CapturesUpTo 0 (take (suc i) (set_value_at ts i y))
captures-take_suc t y [] i is le h = let no : ⊥ = cc in absurd no
captures-take_suc t y (x ∷ ts) zero is le h = (le, tt)
captures-take_suc t y (x ∷ ts) (suc i) is le h = (h.0, captures-take_suc t y ts i is le h.1)

pub captures-take : (t : Name × StoredTable) (y : StoredTable) (ts : List (Name × StoredTable)) (i : ℕ) → slice_get ts i ≡ Some t → y.capture ≤ 0 → CapturesUpTo 0 (take i ts) → CapturesUpTo 0 (take (i + 1) (set_value_at ts i y))
captures-take t y ts i is le h = rw add-one (captures-take_suc t y ts i is le h)

-- a table is written under its name
module _ (test : Name → Bool) where
  pub shown-named : (ts : List (Name × StoredTable)) (y : StoredTable) → shown_tables (set_value test ts y) ≡ set_value test (shown_tables ts) y.contents
  shown-named [] y = refl
  shown-named (t ∷ ts) y = by (test t.0) (shown-named ts y)
    where
      by : (b : Bool) → shown_tables (set_value test ts y) ≡ set_value test (shown_tables ts) y.contents → shown_tables (cond b ((t.0, y) ∷ ts) (t ∷ set_value test ts y)) ≡ cond b ((t.0, y.contents) ∷ shown_tables ts) ((t.0, t.1.contents) ∷ set_value test (shown_tables ts) y.contents)
      by true h = refl
      by false h = ap (λ l. (t.0, t.1.contents) ∷ l) h

  captures-found : (n : ℕ) (ts : List (Name × StoredTable)) (x : StoredTable) → lookup test ts ≡ Some x → CapturesUpTo n ts → x.capture ≤ n
  captures-found n [] x is h = let no : ⊥ = cc in absurd no
  captures-found n (t ∷ ts) x is h = by (test t.0) is (λ e. captures-found n ts x e h.1)
    where
      by : (b : Bool) → cond b (Some t.1) (lookup test ts) ≡ Some x → (lookup test ts ≡ Some x → x.capture ≤ n) → x.capture ≤ n
      by true e later = subst (λ (s : StoredTable). s.capture ≤ n) (some-same t.1 x e) h.0
      by false e later = later e

  captures-named : (n : ℕ) (ts : List (Name × StoredTable)) (y : StoredTable) → y.capture ≤ n → CapturesUpTo n ts → CapturesUpTo n (set_value test ts y)
  captures-named n [] y le h = h
  captures-named n (t ∷ ts) y le h = by (test t.0) (captures-named n ts y le h.1)
    where
      by : (b : Bool) → CapturesUpTo n (set_value test ts y) → CapturesUpTo n (cond b ((t.0, y) ∷ ts) (t ∷ set_value test ts y))
      by true later = (le, h.1)
      by false later = (h.0, later)

  rest-named : (f : StoredTable → List Row) (to : ℕ) (ts : List (Name × StoredTable)) (x y : StoredTable) → lookup test ts ≡ Some x → f y ≡ f x → map (λ k. f k.1) (take to (set_value test ts y)) ≡ map (λ k. f k.1) (take to ts)
  rest-named f to [] x y is h = refl
  rest-named f zero (t ∷ ts) x y is h = refl
  rest-named f (suc to) (t ∷ ts) x y is h = by (test t.0) is (λ e. rest-named f to ts x y e h)
    where
      by : (b : Bool) → cond b (Some t.1) (lookup test ts) ≡ Some x → (lookup test ts ≡ Some x → map (λ k. f k.1) (take to (set_value test ts y)) ≡ map (λ k. f k.1) (take to ts)) → map (λ k. f k.1) (take (suc to) (cond b ((t.0, y) ∷ ts) (t ∷ set_value test ts y))) ≡ map (λ k. f k.1) (take (suc to) (t ∷ ts))
      by true e later = ap (λ l. l ∷ map (λ k. f k.1) (take to ts)) (h ∙ ap f (sym (some-same t.1 x e)))
      by false e later = ap (λ l. f t.1 ∷ l) (later e)

-- all rows are as many as the tables have together
pub length-all_rows : (ts : List (Name × Table)) → length (all_rows ts) ≡ sum_by (λ (t : Name × Table). length t.1.rows) ts
length-all_rows [] = refl
length-all_rows (t ∷ ts) =
    let name : ℕ × Row → Name × (ℕ × Row) = λ numbered. (t.0, numbered) in
    let long = length-append (map name t.1.rows) (all_rows ts) in
    let own = length-map t.1.rows name in
    let later = length-all_rows ts in
    let sums = sum_by-cons (λ (t : Name × Table). length t.1.rows) t ts in
    omega arith

-- the same, by the tables without their names
sum_by-rows : (ts : List (Name × Table)) → sum_by (λ (t : Name × Table). length t.1.rows) ts ≡ sum_by (λ (t : Table). length t.rows) (values_of ts)
sum_by-rows [] = refl
sum_by-rows (t ∷ ts) =
    let later = sum_by-rows ts in
    let sums = sum_by-cons (λ (t : Name × Table). length t.1.rows) t ts in
    let others = sum_by-cons (λ (t : Table). length t.rows) t.1 (values_of ts) in
    omega arith

-- a change to one table changes how many rows there are by what it changes of that one
pub all_rows-changed : (test : Name → Bool) (ts : List (Name × Table)) (x y : Table) → lookup test ts ≡ Some x → length (all_rows (set_value test ts y)) + length x.rows ≡ length (all_rows ts) + length y.rows
all_rows-changed test ts x y is =
    let a = length-all_rows ts ∙ sum_by-rows ts in
    let b = length-all_rows (set_value test ts y) ∙ sum_by-rows (set_value test ts y) in
    let s = sum_by-set_value (λ (t : Table). length t.rows) test ts x y is in
    omega arith

module _ (test : Name → Bool) (ts : List (Name × StoredTable)) (w : Walk) (x y : StoredTable) (there : lookup test ts ≡ Some x) (kept : KeepsDue w x y) where
  -- a change to one table leaves what all have to give
  pub rest-kept : rest_in w (set_value test ts y) ≡ rest_in w ts
  rest-kept = rest-named test (still_due w) w.end ts x y there (still-kept w x y kept)

  pub walk-kept : (total more : ℕ) → IsWalk ts w total → more ≡ length (all_rows (shown_tables (set_value test ts y))) % 2 ^ 64 → IsWalk (set_value test ts y) w more
  walk-kept total more s t = record {
    captures = captures-named test w.number ts y (kept.capture (captures-found test w.number ts x there s.captures)) s.captures;
    within = let k = length-set_value test ts y in let o = s.within in omega arith;
    left_is = s.left_is ∙ ap (λ l. sum_by length l) (sym rest-kept);
    total_is = t;
  }

-- how many rows there are, where they are few
pub total-few : (total long : ℕ) → total ≡ long % 2 ^ 64 → long < 2 ^ 63 → total ≡ long
total-few total long t few = omega arith

-- the rows of all tables are as many, table by table
pub sum-rows_by_table : (ts : List (Name × Table)) → sum_by length (rows_by_table ts) ≡ length (all_rows ts)
sum-rows_by_table ts = each ts ∙ sym (length-all_rows ts)
  where
    each : (ts : List (Name × Table)) → sum_by length (rows_by_table ts) ≡ sum_by (λ (t : Name × Table). length t.1.rows) ts
    each [] = refl
    each (t ∷ ts) =
        let lists = sum_by-cons (length {A = Row}) (values_of t.1.rows) (rows_by_table ts) in
        let long = length-map t.1.rows (λ (e : ℕ × Row). e.1) in
        let sums = sum_by-cons (λ (t : Name × Table). length t.1.rows) t ts in
        let later = each ts in
        omega arith

-- a capture that begins, of all tables and rows
module _ (n total : ℕ) (ts : List (Name × StoredTable)) (captures : CapturesUpTo n ts)
    (all : map (λ t. values_of (due_for n t.1)) ts ≡ rows_by_table (shown_tables ts))
    (total_is : total ≡ length (all_rows (shown_tables ts)) % 2 ^ 64) (few : length (all_rows (shown_tables ts)) < 2 ^ 63) where
  begun_due : map (due_rows n) (take (length ts) ts) ≡ rows_by_table (shown_tables ts)
  begun_due = ap (map (due_rows n)) (take_all (length ts) ts (omega arith)) ∙ all

  begun_left : total ≡ sum_by length (map (due_rows n) (take (length ts) ts))
  begun_left =
      let rows = sum-rows_by_table (shown_tables ts) in
      let here = ap (λ l. sum_by length l) begun_due in
      let long = total-few total (length (all_rows (shown_tables ts))) total_is few in
      omega arith

  pub rest-begun : rest_in (record { number = n; end = length ts; left = total }) ts ≡ rows_by_table (shown_tables ts)
  rest-begun = rest-counted (record { number = n; end = length ts; left = total }) ts begun_left ∙ begun_due

  pub walk-begun : IsWalk ts (record { number = n; end = length ts; left = total }) total
  walk-begun = record {
    captures = captures;
    within = omega arith;
    left_is = begun_left ∙ ap (λ l. sum_by length l) (begun_due ∙ sym rest-begun);
    total_is = total_is;
  }

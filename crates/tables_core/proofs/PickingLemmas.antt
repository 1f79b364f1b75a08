-- The rows that a filter chooses, found among numbers that rise.
use Rattle.std.proofs.Common.{◌≡◌, ◌≢◌, ◌≤◌, ◌<◌, ◌+◌, ℕ, suc, Bool, true, false, not, cond, List, [], ◌∷◌, Some, None, map, filter, refl, sym, ap, ◌∙◌, ◌⊎◌, inl, inr, arith, add-one}
use Rattle.std.specs.List.{AllByRecursion, Contains, cons_option}
use Rattle.std.specs.List.Sorted.{IsStrictlyIncreasing}
use Rattle.std.specs.Option.{option_map, option_map_or}
use Rattle.std.proofs.lemmas.Bool.{eq-eqb, ne_eqb, cases_eq, cases_order, false_from_ne_true}
use Rattle.std.proofs.lemmas.List.Elements.{recursion_from_All}
use Rattle.std.proofs.lemmas.Map.Made.{Contains-tail}
use Rattle.base_core.specs.declared.value.Row.{Row}
use Rattle.copyup_core.specs.Holding.{Rise, value_at, without_item}
use Rattle.tables_core.specs.Picking.{rows_at, without_rows, row_passes_at, numbers_of, Covers}

-- the numbers rise, from low on
abbrev Rises : ℕ → List ℕ → Type 0
Rises low [] = Unit {0}
Rises low (n ∷ ns) = (low ≤ n) × Rises (n + 1) ns

increasing-tail : (n : ℕ) (ns : List ℕ) → IsStrictlyIncreasing (n ∷ ns) → IsStrictlyIncreasing ns
increasing-tail n ns h = λ k lt. rw add-one (rw add-one at (h (suc k) (omega arith)))

rises-after : (n : ℕ) (ns : List ℕ) → IsStrictlyIncreasing (n ∷ ns) → Rises (n + 1) ns
rises-after n [] h = tt
rises-after n (m ∷ ns) h = (let less = h 0 (omega arith) in omega arith, rises-after m ns (increasing-tail n (m ∷ ns) h))

rises-all : (ns : List ℕ) → IsStrictlyIncreasing ns → Rises 0 ns
rises-all [] h = tt
rises-all (n ∷ ns) h = (omega arith, rises-after n ns h)

-- each of numbers that rise is from the first bound on
from-low : (low : ℕ) (ns : List ℕ) (m : ℕ) → Rises low ns → Contains ns m → low ≤ m
from-low low [] m s is = let within = is.1 in absurd (omega arith)
from-low low (n ∷ ns) m s is = by (cases_eq n m) (λ ne. from-low (n + 1) ns m s.1 (Contains-tail n ns m ne is))
  where
    by : (n ≡ m) ⊎ (n ≡ m → ⊥) → ((n ≡ m → ⊥) → n + 1 ≤ m) → low ≤ m
    by (inl q) later = let first = s.0 in omega arith
    by (inr ne) later = let first = s.0 in let next = later ne in omega arith

-- a number below all has no row
absent : (n low high : ℕ) (rows : List (ℕ × Row)) → Rise low high rows → n < low → value_at n rows ≡ None
absent n low high [] r lt = refl
absent n low high (e ∷ rows) r lt =
    let first = r.0 in
    let ne : e.0 ≢ n = λ q. absurd (omega arith) in
    ap (λ b. cond b (Some e.1) (value_at n rows)) (ne_eqb e.0 n ne) ∙ absent n (e.0 + 1) high rows r.1 (omega arith)

-- the rows have numbers from low on
abbrev AllFrom : ℕ → List (ℕ × Row) → Type 0
AllFrom low rows = AllByRecursion (λ r. low ≤ r.0) rows

rise-from : (low high below : ℕ) (rows : List (ℕ × Row)) → below ≤ low → Rise low high rows → AllFrom below rows
rise-from low high below [] le r = tt
rise-from low high below (e ∷ rows) le r = (let first = r.0 in omega arith, rise-from (e.0 + 1) high below rows (let first = r.0 in omega arith) r.1)

-- what is so of each row is so of those that are kept
kept : {A : Type 0} (P : A → Type 0) (test : A → Bool) (xs : List A) → AllByRecursion P xs → AllByRecursion P (filter test xs)
kept P test [] h = tt
kept P test (x ∷ xs) h = by (test x) (kept P test xs h.1)
  where
    by : (b : Bool) → AllByRecursion P (filter test xs) → AllByRecursion P (cond b (x ∷ filter test xs) (filter test xs))
    by true later = (h.0, later)
    by false later = later

module _ (test : ℕ × Row → Bool) where
  -- the same as `Covers`, by recursion
  abbrev Reaches : List ℕ → List (ℕ × Row) → Type 0
  Reaches ns rows = AllByRecursion (λ r. test r ≡ true → Contains ns r.0) rows

  none-there : (ns : List ℕ) → filter (row_passes_at test []) ns ≡ []
  none-there [] = refl
  none-there (n ∷ ns) = none-there ns

  none-reached : (rows : List (ℕ × Row)) → Reaches [] rows → numbers_of test rows ≡ []
  none-reached [] h = refl
  none-reached (e ∷ rows) h =
      let out : test e ≡ false = false_from_ne_true (test e) (λ yes. let within = (h.0 yes).1 in absurd (omega arith)) in
      ap (λ b. map (λ r. r.0) (cond b (e ∷ filter test rows) (filter test rows))) out ∙ none-reached rows h.1

  -- numbers above a row's do not ask for it
  row-passed : (low : ℕ) (e : ℕ × Row) (rows : List (ℕ × Row)) (ns : List ℕ) → e.0 < low → Rises low ns → filter (row_passes_at test (e ∷ rows)) ns ≡ filter (row_passes_at test rows) ns
  row-passed low e rows [] lt s = refl
  row-passed low e rows (n ∷ ns) lt s =
      let first = s.0 in
      let ne : e.0 ≢ n = λ q. absurd (omega arith) in
      let rest = filter (row_passes_at test (e ∷ rows)) ns in
      ap (λ b. cond (option_map_or (λ row. test (n, row)) (cond b (Some e.1) (value_at n rows)) false) (n ∷ rest) rest) (ne_eqb e.0 n ne)
      ∙ ap (λ l. cond (row_passes_at test rows n) (n ∷ l) l) (row-passed (n + 1) e rows ns (omega arith) s.1)

  -- a number below all rows is not needed
  number-passed : (n low high : ℕ) (ns : List ℕ) (rows : List (ℕ × Row)) → n < low → Rise low high rows → Reaches (n ∷ ns) rows → Reaches ns rows
  number-passed n low high ns [] lt r h = tt
  number-passed n low high ns (e ∷ rows) lt r h =
      let first = r.0 in
      (λ yes. Contains-tail n ns e.0 (λ q. absurd (omega arith)) (h.0 yes), number-passed n (e.0 + 1) high ns rows (omega arith) r.1 h.1)

  module _ (e : ℕ × Row) (rows : List (ℕ × Row)) (high : ℕ) (rise : Rise (e.0 + 1) high rows) (later : (ns : List ℕ) (low : ℕ) → Rises low ns → Reaches ns rows → filter (row_passes_at test rows) ns ≡ numbers_of test rows) where
    here : (n : ℕ) → n ≡ e.0 → row_passes_at test (e ∷ rows) n ≡ test e
    here n q = ap (λ b. option_map_or (λ row. test (n, row)) (cond b (Some e.1) (value_at n rows)) false) (eq-eqb e.0 n (sym q)) ∙ ap (λ k. test (k, e.1)) q

    both : (b : Bool) (n : ℕ) (l : List ℕ) → n ≡ e.0 → l ≡ numbers_of test rows → cond b (n ∷ l) l ≡ map (λ r. r.0) (cond b (e ∷ filter test rows) (filter test rows))
    both true n l q is = ap (λ k. k ∷ l) q ∙ ap (λ k. e.0 ∷ k) is
    both false n l q is = is

    with-row : (ns : List ℕ) (low : ℕ) → Rises low ns → Reaches ns (e ∷ rows) → filter (row_passes_at test (e ∷ rows)) ns ≡ numbers_of test (e ∷ rows)
    with-row [] low s h = sym (none-reached (e ∷ rows) h)
    with-row (n ∷ ns) low s h = by (cases_order n e.0) (with-row ns (n + 1) s.1)
      where
        rest : List ℕ
        rest = filter (row_passes_at test (e ∷ rows)) ns

        by : (n ≡ e.0) ⊎ ((n < e.0) ⊎ (e.0 < n)) → (Reaches ns (e ∷ rows) → filter (row_passes_at test (e ∷ rows)) ns ≡ numbers_of test (e ∷ rows)) → cond (row_passes_at test (e ∷ rows) n) (n ∷ filter (row_passes_at test (e ∷ rows)) ns) (filter (row_passes_at test (e ∷ rows)) ns) ≡ numbers_of test (e ∷ rows)
        by (inl q) others =
            let same : rest ≡ numbers_of test rows = row-passed (n + 1) e rows ns (omega arith) s.1 ∙ later ns (n + 1) s.1 (number-passed n (e.0 + 1) high ns rows (omega arith) rise h.1) in
            ap (λ b. cond b (n ∷ rest) rest) (here n q) ∙ both (test e) n rest q same
        by (inr (inl lt)) others =
            let none : value_at n (e ∷ rows) ≡ None = absent n e.0 high (e ∷ rows) (omega arith, rise) lt in
            ap (λ o. cond (option_map_or (λ row. test (n, row)) o false) (n ∷ rest) rest) none
            ∙ others (number-passed n e.0 high ns (e ∷ rows) lt (omega arith, rise) h)
        by (inr (inr lt)) others =
            let above : Rises n (n ∷ ns) = (omega arith, s.1) in
            let out : test e ≡ false = false_from_ne_true (test e) (λ yes. let low = from-low n (n ∷ ns) e.0 above (h.0 yes) in absurd (omega arith)) in
            row-passed n e rows (n ∷ ns) lt above ∙ later (n ∷ ns) n above h.1
            ∙ sym (ap (λ b. map (λ r. r.0) (cond b (e ∷ filter test rows) (filter test rows))) out)

  found : (low high : ℕ) (rows : List (ℕ × Row)) → Rise low high rows → (ns : List ℕ) (from : ℕ) → Rises from ns → Reaches ns rows → filter (row_passes_at test rows) ns ≡ numbers_of test rows
  found low high [] r ns from s h = none-there ns
  found low high (e ∷ rows) r ns from s h = with-row e rows high r.1 (λ ns from s h. found (e.0 + 1) high rows r.1 ns from s h) ns from s h

  -- of numbers that rise, among which is each row's that passes the test, those at which one does are
  -- the numbers of just these rows
  pub found-among : (high : ℕ) (rows : List (ℕ × Row)) (ns : List ℕ) → Rise 0 high rows → IsStrictlyIncreasing ns → Covers test ns rows → filter (row_passes_at test rows) ns ≡ numbers_of test rows
  found-among high rows ns r rising covers = found 0 high rows r ns 0 (rises-all ns rising) (recursion_from_All (λ r. test r ≡ true → Contains ns r.0) rows covers)

  -- each of the rows is found under its number
  own : (low high : ℕ) (rows : List (ℕ × Row)) → Rise low high rows → AllByRecursion (λ e. value_at e.0 rows ≡ Some e.1) rows
  own low high [] r = tt
  own low high (e ∷ rows) r = (ap (λ b. cond b (Some e.1) (value_at e.0 rows)) (eq-eqb e.0 e.0 refl), behind rows (rise-from (e.0 + 1) high (e.0 + 1) rows (omega arith) r.1) (own (e.0 + 1) high rows r.1))
    where
      behind : (later : List (ℕ × Row)) → AllFrom (e.0 + 1) later → AllByRecursion (λ f. value_at f.0 rows ≡ Some f.1) later → AllByRecursion (λ f. value_at f.0 (e ∷ rows) ≡ Some f.1) later
      behind [] above is = tt
      behind (f ∷ later) above is =
          let first = above.0 in
          let ne : e.0 ≢ f.0 = λ q. absurd (omega arith) in
          (ap (λ b. cond b (Some e.1) (value_at f.0 rows)) (ne_eqb e.0 f.0 ne) ∙ is.0, behind later above.1 is.1)

  rows_at-own : (rows some : List (ℕ × Row)) → AllByRecursion (λ e. value_at e.0 rows ≡ Some e.1) some → rows_at (map (λ r. r.0) some) rows ≡ some
  rows_at-own rows [] is = refl
  rows_at-own rows (e ∷ some) is = ap (λ o. cons_option (option_map (λ row. (e.0, row)) o) (rows_at (map (λ r. r.0) some) rows)) is.0 ∙ ap (λ l. e ∷ l) (rows_at-own rows some is.1)

  -- the rows of these numbers are the rows that pass the test
  pub rows_at-numbers_of : (high : ℕ) (rows : List (ℕ × Row)) → Rise 0 high rows → rows_at (numbers_of test rows) rows ≡ filter test rows
  rows_at-numbers_of high rows r = rows_at-own rows (filter test rows) (kept (λ e. value_at e.0 rows ≡ Some e.1) test rows (own 0 high rows r))

  -- numbers above a row's leave it
  row-left : (e : ℕ × Row) (rows : List (ℕ × Row)) (low : ℕ) (some : List (ℕ × Row)) → e.0 < low → AllFrom low some → without_rows (map (λ r. r.0) some) (e ∷ rows) ≡ e ∷ without_rows (map (λ r. r.0) some) rows
  row-left e rows low [] lt above = refl
  row-left e rows low (f ∷ some) lt above =
      let first = above.0 in
      let ne : e.0 ≢ f.0 = λ q. absurd (omega arith) in
      ap (λ b. without_rows (map (λ r. r.0) some) (cond b rows (e ∷ without_item f.0 rows))) (ne_eqb e.0 f.0 ne) ∙ row-left e (without_item f.0 rows) low some lt above.1

  left : (low high : ℕ) (rows : List (ℕ × Row)) → Rise low high rows → without_rows (numbers_of test rows) rows ≡ filter (λ r. not (test r)) rows
  left low high [] r = refl
  left low high (e ∷ rows) r = by (test e) (left (e.0 + 1) high rows r.1)
    where
      above : AllFrom (e.0 + 1) (filter test rows)
      above = kept (λ r. e.0 + 1 ≤ r.0) test rows (rise-from (e.0 + 1) high (e.0 + 1) rows (omega arith) r.1)

      by : (b : Bool) → without_rows (numbers_of test rows) rows ≡ filter (λ r. not (test r)) rows → without_rows (map (λ r. r.0) (cond b (e ∷ filter test rows) (filter test rows))) (e ∷ rows) ≡ cond (not b) (e ∷ filter (λ r. not (test r)) rows) (filter (λ r. not (test r)) rows)
      by true others = ap (λ b. without_rows (numbers_of test rows) (cond b rows (e ∷ without_item e.0 rows))) (eq-eqb e.0 e.0 refl) ∙ others
      by false others = row-left e rows (e.0 + 1) (filter test rows) (omega arith) above ∙ ap (λ l. e ∷ l) others

  -- the rows without those of these numbers are the rows that do not pass the test
  pub without_rows-numbers_of : (high : ℕ) (rows : List (ℕ × Row)) → Rise 0 high rows → without_rows (numbers_of test rows) rows ≡ filter (λ r. not (test r)) rows
  without_rows-numbers_of high rows r = left 0 high rows r

-- The new rows of an UPDATE, put under their numbers one after another.
use Rattle.std.proofs.Common.{◌≡◌, ◌≢◌, ◌≤◌, ◌+◌, ℕ, Bool, true, false, cond, List, [], ◌∷◌, Option, Some, IsSome, is_some, map, filter, refl, sym, ap, subst, ◌∙◌, arith}
use Rattle.std.specs.List.{All, AllByRecursion}
use Rattle.std.proofs.lemmas.Bool.{eq-eqb, ne_eqb, eqb-true}
use Rattle.std.proofs.lemmas.List.Elements.{All-from_recursion, recursion_from_All}
use Rattle.std.proofs.Math.Dec.{eqb}
use Rattle.base_core.specs.declared.value.Row.{Row}
use Rattle.copyup_core.specs.Holding.{Rise, value_at, with_item}
use Rattle.tables_core.specs.Updating.{with_new_rows}

-- each number is from low on
abbrev AllFrom : ℕ → List (ℕ × Row) → Type 0
AllFrom low rows = AllByRecursion (λ r. low ≤ r.0) rows

from-weaker : (low higher : ℕ) (rows : List (ℕ × Row)) → low ≤ higher → AllFrom higher rows → AllFrom low rows
from-weaker low higher [] le h = tt
from-weaker low higher (r ∷ rows) le h = (let k = h.0 in omega arith, from-weaker low higher rows le h.1)

-- rows of higher numbers leave the first as it is
new_rows-pass : (e : ℕ × Row) (rows new_rows : List (ℕ × Row)) → AllFrom (e.0 + 1) new_rows → with_new_rows (e ∷ rows) new_rows ≡ e ∷ with_new_rows rows new_rows
new_rows-pass e rows [] h = refl
new_rows-pass e rows (r ∷ new_rows) h =
    let ne : e.0 ≢ r.0 = λ q. absurd (let k = h.0 in omega arith) in
    ap (λ b. with_new_rows (cond b ((r.0, r.1) ∷ rows) (e ∷ with_item r.0 r.1 rows)) new_rows) (ne_eqb e.0 r.0 ne) ∙ new_rows-pass e (with_item r.0 r.1 rows) new_rows h.1

module _ (p : ℕ × Row → Bool) (f : ℕ × Row → ℕ × Row) (numbered : (e : ℕ × Row) → (f e).0 ≡ e.0) where
  chosen-from : (low high : ℕ) (rows : List (ℕ × Row)) → Rise low high rows → AllFrom low (map f (filter p rows))
  chosen-from low high [] r = tt
  chosen-from low high (e ∷ rows) r = by (p e) (from-weaker low (e.0 + 1) _ (let k = r.0 in omega arith) (chosen-from (e.0 + 1) high rows r.1))
    where
      by : (b : Bool) → AllFrom low (map f (filter p rows)) → AllFrom low (map f (cond b (e ∷ filter p rows) (filter p rows)))
      by true h = (let q = numbered e in let k = r.0 in omega arith, h)
      by false h = h

  -- the chosen rows made anew, put under their numbers, are all rows with those made anew
  pub chosen-put : (low high : ℕ) (rows : List (ℕ × Row)) → Rise low high rows → with_new_rows rows (map f (filter p rows)) ≡ map (λ e. cond (p e) (f e) e) rows
  chosen-put low high [] r = refl
  chosen-put low high (e ∷ rows) r = by (p e) (chosen-from (e.0 + 1) high rows r.1) (chosen-put (e.0 + 1) high rows r.1)
    where
      by : (b : Bool) → AllFrom (e.0 + 1) (map f (filter p rows)) → with_new_rows rows (map f (filter p rows)) ≡ map (λ e. cond (p e) (f e) e) rows → with_new_rows (e ∷ rows) (map f (cond b (e ∷ filter p rows) (filter p rows))) ≡ cond b (f e) e ∷ map (λ e. cond (p e) (f e) e) rows
      by true later others =
          let here : eqb e.0 (f e).0 ≡ true = eq-eqb e.0 (f e).0 (sym (numbered e)) in
          let above : AllFrom ((f e).0 + 1) (map f (filter p rows)) = subst (λ n. AllFrom (n + 1) (map f (filter p rows))) (sym (numbered e)) later in
          ap (λ b. with_new_rows (cond b (f e ∷ rows) (e ∷ with_item (f e).0 (f e).1 rows)) (map f (filter p rows))) here
          ∙ new_rows-pass (f e) rows (map f (filter p rows)) above
          ∙ ap (λ l. f e ∷ l) others
      by false later others = new_rows-pass e rows (map f (filter p rows)) later ∙ ap (λ l. e ∷ l) others

-- what a look-up finds first makes it find something, whatever it is
found-either : (b : Bool) (v w : Row) (o q : Option Row) → is_some o ≡ is_some q → is_some (cond b (Some v) o) ≡ is_some (cond b (Some w) q)
found-either true v w o q e = refl
found-either false v w o q e = e

-- a row put under a number leaves which numbers there are
pub value_at-with_item : (n m : ℕ) (v : Row) (rows : List (ℕ × Row)) → is_some (value_at m (with_item n v rows)) ≡ is_some (value_at m rows)
value_at-with_item n m v [] = refl
value_at-with_item n m v (e ∷ rows) = by (eqb e.0 n) refl (value_at-with_item n m v rows)
  where
    by : (b : Bool) → eqb e.0 n ≡ b → is_some (value_at m (with_item n v rows)) ≡ is_some (value_at m rows) → is_some (value_at m (cond b ((n, v) ∷ rows) (e ∷ with_item n v rows))) ≡ is_some (cond (eqb e.0 m) (Some e.1) (value_at m rows))
    by true q later = ap (λ k. is_some (cond (eqb k m) (Some v) (value_at m rows))) (sym (eqb-true e.0 n q)) ∙ found-either (eqb e.0 m) v e.1 (value_at m rows) (value_at m rows) refl
    by false q later = found-either (eqb e.0 m) e.1 e.1 (value_at m (with_item n v rows)) (value_at m rows) later

-- each row has a number that is there
abbrev pub AreThere : List (ℕ × Row) → List (ℕ × Row) → Type 0
AreThere rows new_rows = AllByRecursion (λ r. IsSome (value_at r.0 rows)) new_rows

pub there-with_item : (n : ℕ) (v : Row) (rows new_rows : List (ℕ × Row)) → AreThere rows new_rows → AreThere (with_item n v rows) new_rows
there-with_item n v rows [] h = tt
there-with_item n v rows (r ∷ new_rows) h = (value_at-with_item n r.0 v rows ∙ h.0, there-with_item n v rows new_rows h.1)

there-cons : (e : ℕ × Row) (rows new_rows : List (ℕ × Row)) → AreThere rows new_rows → AreThere (e ∷ rows) new_rows
there-cons e rows [] h = tt
there-cons e rows (r ∷ new_rows) h = (by (eqb e.0 r.0), there-cons e rows new_rows h.1)
  where
    by : (b : Bool) → is_some (cond b (Some e.1) (value_at r.0 rows)) ≡ true
    by true = refl
    by false = h.0

-- the chosen rows have numbers that are there
pub chosen-there : (p : ℕ × Row → Bool) (f : ℕ × Row → ℕ × Row) → ((e : ℕ × Row) → (f e).0 ≡ e.0) → (rows : List (ℕ × Row)) → AreThere rows (map f (filter p rows))
chosen-there p f numbered [] = tt
chosen-there p f numbered (e ∷ rows) = by (p e) (there-cons e rows _ (chosen-there p f numbered rows))
  where
    here : eqb e.0 (f e).0 ≡ true
    here = eq-eqb e.0 (f e).0 (sym (numbered e))

    by : (b : Bool) → AreThere (e ∷ rows) (map f (filter p rows)) → AreThere (e ∷ rows) (map f (cond b (e ∷ filter p rows) (filter p rows)))
    by true h = (ap (λ b. is_some (cond b (Some e.1) (value_at (f e).0 rows))) here, h)
    by false h = h

-- what is so of the rows, and of the new ones, is so of the rows with these under their numbers
module _ (P : ℕ × Row → Type 0) where
  all-with_item : (n : ℕ) (v : Row) (rows : List (ℕ × Row)) → P (n, v) → AllByRecursion P rows → AllByRecursion P (with_item n v rows)
  all-with_item n v [] new h = tt
  all-with_item n v (e ∷ rows) new h = by (eqb e.0 n) (all-with_item n v rows new h.1)
    where
      by : (b : Bool) → AllByRecursion P (with_item n v rows) → AllByRecursion P (cond b ((n, v) ∷ rows) (e ∷ with_item n v rows))
      by true later = (new, h.1)
      by false later = (h.0, later)

  each-with_new_rows : (rows new_rows : List (ℕ × Row)) → AllByRecursion P rows → AllByRecursion P new_rows → AllByRecursion P (with_new_rows rows new_rows)
  each-with_new_rows rows [] h new = h
  each-with_new_rows rows (r ∷ new_rows) h new = each-with_new_rows (with_item r.0 r.1 rows) new_rows (all-with_item r.0 r.1 rows new.0 h) new.1

  pub all-with_new_rows : (rows new_rows : List (ℕ × Row)) → All P rows → All P new_rows → All P (with_new_rows rows new_rows)
  all-with_new_rows rows new_rows h new = All-from_recursion P (with_new_rows rows new_rows) (each-with_new_rows rows new_rows (recursion_from_All P rows h) (recursion_from_All P new_rows new))

-- Rows listed one after the other, in the order of their numbers.
use Rattle.std.proofs.Common.{◌≡◌, ◌<◌, ◌≤◌, ◌+◌, ℕ, Bool, true, false, cond, List, [], ◌∷◌, Some, None, nat_le, refl, sym, subst, arith}
use Rattle.std.specs.List.{All, AllByRecursion}
use Rattle.std.proofs.lemmas.Bool.{leb-false}
use Rattle.std.proofs.lemmas.List.Elements.{All-from_recursion, recursion_from_All}
use Rattle.copyup_core.specs.Holding.{Rise, first_from}
use Rattle.tables_core.specs.Indexing.{Numbered}
use Rattle.tables_core.proofs.IndexLemmas.{some-same}

module _ (P : Numbered → Type 0) where
  -- numbers that rise from one on are not below it
  none-below : (n low high : ℕ) (rows : List Numbered) → Rise low high rows → n ≤ low → AllByRecursion (λ r. r.0 < n → P r) rows
  none-below n low high [] rise le = tt
  none-below n low high (x ∷ rows) rise le =
      (λ below. absurd (omega (arith, below, rise.0, le)), none-below n (x.0 + 1) high rows rise.1 (omega (arith, rise.0, le)))

  -- what is so of the rows below a number, and of the first one from it on, is so up to that one
  upto_next : (n low high : ℕ) (e : Numbered) (rows : List Numbered) → Rise low high rows → first_from n rows ≡ Some e → P e → AllByRecursion (λ r. r.0 < n → P r) rows → AllByRecursion (λ r. r.0 < e.0 + 1 → P r) rows
  upto_next n low high e [] rise found here h = tt
  upto_next n low high e (x ∷ rows) rise found here h = by (λ later. upto_next n (x.0 + 1) high e rows rise.1 later here h.1) (nat_le n x.0) refl found
    where
      by : (first_from n rows ≡ Some e → AllByRecursion (λ r. r.0 < e.0 + 1 → P r) rows) → (b : Bool) → nat_le n x.0 ≡ b → cond b (Some x) (first_from n rows) ≡ Some e → AllByRecursion (λ r. r.0 < e.0 + 1 → P r) (x ∷ rows)
      by rest true is same =
          let first : x ≡ e = some-same x e same in
          subst (λ (k : Numbered). AllByRecursion (λ r. r.0 < k.0 + 1 → P r) (x ∷ rows)) first
          (λ _. subst P (sym first) here, none-below (x.0 + 1) (x.0 + 1) high rows rise.1 (omega arith))
      by rest false is later = (λ _. h.0 (leb-false n x.0 is), rest later)

  -- and where there is none from it on, of all
  reached : (n : ℕ) (rows : List Numbered) → first_from n rows ≡ None → AllByRecursion (λ r. r.0 < n → P r) rows → AllByRecursion P rows
  reached n [] none h = tt
  reached n (x ∷ rows) none h = by (λ later. reached n rows later h.1) (nat_le n x.0) refl none
    where
      by : (first_from n rows ≡ None → AllByRecursion P rows) → (b : Bool) → nat_le n x.0 ≡ b → cond b (Some x) (first_from n rows) ≡ None → AllByRecursion P (x ∷ rows)
      by rest true is same = let never : ⊥ = cc in absurd never
      by rest false is later = (h.0 (leb-false n x.0 is), rest later)

  pub all-upto_next : (n high : ℕ) (e : Numbered) (rows : List Numbered) → Rise 0 high rows → first_from n rows ≡ Some e → P e → All (λ r. r.0 < n → P r) rows → All (λ r. r.0 < e.0 + 1 → P r) rows
  all-upto_next n high e rows rise found here h =
      All-from_recursion (λ r. r.0 < e.0 + 1 → P r) rows (upto_next n 0 high e rows rise found here (recursion_from_All (λ r. r.0 < n → P r) rows h))

  pub all-reached : (n : ℕ) (rows : List Numbered) → first_from n rows ≡ None → All (λ r. r.0 < n → P r) rows → All P rows
  all-reached n rows none h = All-from_recursion P rows (reached n rows none (recursion_from_All (λ r. r.0 < n → P r) rows h))

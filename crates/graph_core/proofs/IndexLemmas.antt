-- An index that is found, and those that are not it.
use Rattle.std.proofs.Common.{◌≡◌, ◌∙◌, ⊎_elim, ℕ, ◌<◌, ◌≤◌, ◌==◌, Bool, true, false, cond, List, [], ◌∷◌, ◌++◌, Option, Some, None, length, get_or, zero, suc, refl, sym, ap, subst, arith}
use Rattle.std.specs.List.{position, list_any, slice_get, IsDistinct}
use Rattle.std.specs.Option.{is_some, unwrap_or}
use Rattle.indexmap.specs.IndexSet.{insert_key}
use Rattle.std.specs.Cmp.{IsEquivalence}
use Rattle.std.proofs.lemmas.Bool.{true≢false, eqb-true, eqb-false, cases_lt}
use Rattle.std.proofs.lemmas.List.{append-nil}
use Rattle.std.proofs.lemmas.List.Elements.{All-from_recursion}
use Rattle.std.proofs.lemmas.List.Quantifiers.{position-Some}
use Rattle.std.proofs.lemmas.Map.Keys.{apart_from_distinct}
use Rattle.links_core.proofs.PositionLemmas.{none_from_position}
use Rattle.graph_core.specs.Indices.{is_index}

-- another place than that of a key has another key
other_key : {K : Type 0} (eq : K → K → Bool) → IsEquivalence eq → (keys : List K) (k d : K) (i j : ℕ) → IsDistinct eq keys → i < length keys → j < length keys → (i == j) ≡ false → eq k (get_or keys j d) ≡ true → eq (get_or keys i d) k ≡ false
other_key eq laws keys k d i j distinct here there apart is =
    laws.symm (get_or keys i d) k ∙ laws.congr k (get_or keys j d) (get_or keys i d) is
    ∙ ⊎_elim (λ (less : i < j). laws.symm (get_or keys j d) (get_or keys i d) ∙ apart_from_distinct eq keys i j d distinct less there)
    (λ (upto : j ≤ i). apart_from_distinct eq keys j i d distinct (let ne = eqb-false i j apart in omega (arith, upto, ne)) here)
    (cases_lt i j)

-- **a key stands at the index that the search answers, and at no other**
pub index_found : {K : Type 0} (eq : K → K → Bool) → IsEquivalence eq → (keys : List K) (k d : K) (found : Option ℕ) → IsDistinct eq keys → found ≡ position (eq k) keys → (i : ℕ) → i < length keys → eq (get_or keys i d) k ≡ is_index found i
index_found eq laws keys k d None distinct is i here =
    laws.symm (get_or keys i d) k ∙ All-from_recursion (λ g. eq k g ≡ false) keys (none_from_position (eq k) keys (sym is)) i d here
index_found {K} eq laws keys k d (Some j) distinct is i here = step (i == j) refl
  where
    at : (j < length keys) × (eq k (get_or keys j d) ≡ true)
    at = let p = position-Some (eq k) keys j d (sym is) in (p.0, p.1)

    step : (t : Bool) → (i == j) ≡ t → eq (get_or keys i d) k ≡ t
    step true same =
        let P : ℕ → Type 0 = λ n. eq (get_or keys n d) k ≡ true in
        subst P (sym (eqb-true i j same)) (laws.symm (get_or keys j d) k ∙ at.1)
    step false apart = other_key eq laws keys k d i j distinct here at.0 apart at.1

-- **no other place has the same key**
pub place_own : {K : Type 0} (eq : K → K → Bool) → IsEquivalence eq → (keys : List K) (d : K) (i j : ℕ) → IsDistinct eq keys → i < length keys → j < length keys → eq (get_or keys i d) (get_or keys j d) ≡ (i == j)
place_own {K} eq laws keys d i j distinct here there = step (i == j) refl
  where
    step : (t : Bool) → (i == j) ≡ t → eq (get_or keys i d) (get_or keys j d) ≡ t
    step true same = ap (λ n. eq (get_or keys n d) (get_or keys j d)) (eqb-true i j same) ∙ laws.refl (get_or keys j d)
    step false apart = other_key eq laws keys (get_or keys j d) d i j distinct here there apart (laws.refl (get_or keys j d))

-- a key that is inserted comes last, or stands there
pub inserted_behind : {K : Type 0} (eq : K → K → Bool) (keys : List K) (k : K) → (more : List K) × (insert_key eq keys k ≡ keys ++ more)
inserted_behind {K} eq keys k = step (list_any (eq k) keys)
  where
    step : (t : Bool) → (more : List K) × (cond t keys (keys ++ k ∷ []) ≡ keys ++ more)
    step true = ([], sym (append-nil keys))
    step false = (k ∷ [], refl)

pub some_at : {K : Type 0} (keys : List K) (i : ℕ) (k d : K) → slice_get keys i ≡ Some k → get_or keys i d ≡ k
some_at [] i k d h = absurd (true≢false (ap is_some (sym h)))
some_at (x ∷ xs) zero k d h = ap (λ o. unwrap_or o x) h
some_at (x ∷ xs) (suc i) k d h = some_at xs i k d h

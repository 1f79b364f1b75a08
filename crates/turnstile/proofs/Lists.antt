-- Lists of views, and of entries.
use Rattle.std.proofs.Common.{◌≡◌, ℕ, zero, suc, ◌+◌, ◌<◌, ◌≤◌, eqb, ◌≢◌, ◌⊎◌, List, [], ◌∷◌, ◌++◌, set, sym, refl, ap, ◌∙◌, subst, inl, inr, ⊎_elim, arith, append_assoc, eq-eqb, ne_eqb}
use Rattle.std.proofs.lemmas.List.{append-nil}
use Rattle.std.proofs.lemmas.List.Elements.{filter-append}
use Rattle.std.proofs.Math.Seq.{drop-append_seam, drop-length}
use mathlib.Core.Option.{some, some-injective, some-ne-none}
use native.Mathlib.Decide.{ℕ_discrete}
use lib.ListN.{get_elem?}
use Rattle.atomic_table.proofs.Lists.{at_set}
use Rattle.std.proofs.lemmas.List.Elements.{All-nil, All-cons, All-push}
use Rattle.std.specs.Prelude.{All}
use Rattle.turnstile.specs.Logs.{StartsWith, own, gained, AddsOneAtMost}
use Rattle.turnstile.specs.Rule.{total}

module _ {V : Type 0} where
  pub total_set : (f : V → ℕ) (vs : List V) (i : ℕ) (v w : V) → get_elem? vs i ≡ some v → total f (set vs i w) + f v ≡ total f vs + f w
  total_set f [] i v w e = absurd (some-ne-none v (sym e))
  total_set f (x ∷ xs) zero v w e = let h : f x ≡ f v = ap f (some-injective x v e) in omega arith
  total_set f (x ∷ xs) (suc i) v w e = let h = total_set f xs i v w e in omega arith

  pub total-append : (f : V → ℕ) (vs ws : List V) → total f (vs ++ ws) ≡ total f vs + total f ws
  total-append f [] ws = omega arith
  total-append f (x ∷ xs) ws = let h = total-append f xs ws in omega arith

  pub total_snoc : (f : V → ℕ) (vs : List V) (w : V) → total f (vs ++ w ∷ []) ≡ total f vs + f w
  total_snoc f vs w = let h = total-append f vs (w ∷ []) in omega arith

  pub total_same : (f : V → ℕ) (vs : List V) (i : ℕ) (v w : V) → get_elem? vs i ≡ some v → f w ≡ f v → total f (set vs i w) ≡ total f vs
  total_same f vs i v w e same = let h = total_set f vs i v w e in omega arith

  -- a fact about each seat, after a change of one view
  pub seats_stay : (K K' : ℕ → V → Type 0) (vs : List V) (me : ℕ) (w : V) → ((j : ℕ) (d : V) → get_elem? vs j ≡ some d → K j d) → K' me w → ((j : ℕ) (d : V) → j ≢ me → K j d → K' j d)
      → (j : ℕ) (d : V) → get_elem? (set vs me w) j ≡ some d → K' j d
  seats_stay K K' vs me w all mine others j d e = ⊎_elim (λ (t : (j ≡ me) × (w ≡ d)). subst (λ (x : ℕ × V). K' x.0 x.1) (λ i. (sym t.0 i, t.1 i)) mine)
      (λ (t : (j ≢ me) × (get_elem? vs j ≡ some d)). others j d t.0 (all j d t.1)) (at_set vs me j w d e)

  pub set_there : (l : List V) (i : ℕ) (a b : V) → get_elem? l i ≡ some a → get_elem? (set l i b) i ≡ some b
  set_there [] i a b e = absurd (some-ne-none a (sym e))
  set_there (x ∷ xs) zero a b e = refl
  set_there (x ∷ xs) (suc i) a b e = set_there xs i a b e

module _ {E : Type 0} where
  pub starts_later : (a b c : List E) → StartsWith b a → StartsWith c b → StartsWith c a
  starts_later a b c s t = (s.0 ++ t.0, t.1 ∙ (ap (λ z. z ++ t.0) s.1 ∙ append_assoc a s.0 t.0))

  pub starts_here : (a : List E) → StartsWith a a
  starts_here a = ([], sym (append-nil a))

  own_one : (by : E → ℕ) (p : ℕ) (e : E) → by e ≡ p → own by p (e ∷ []) ≡ e ∷ []
  own_one by p e is = rw (eq-eqb (by e) p is)

  own_not : (by : E → ℕ) (p : ℕ) (e : E) → by e ≢ p → own by p (e ∷ []) ≡ []
  own_not by p e not = rw (ne_eqb (by e) p not)

  -- what a turn of the pass p adds
  pub adds_start : (by : E → ℕ) (p : ℕ) (a b : List E) → AddsOneAtMost by p a b → StartsWith b a
  adds_start by p a b adds = ⊎_elim (λ (e : b ≡ a). ([], e ∙ sym (append-nil a))) (λ (t : (e : E) × (by e ≡ p) × (b ≡ a ++ e ∷ [])). (t.0 ∷ [], t.2)) adds

  pub own_mine : (by : E → ℕ) (p : ℕ) (a b : List E) → AddsOneAtMost by p a b → own by p b ≡ own by p a ++ gained a b
  own_mine by p a b adds = ⊎_elim
      (λ (e : b ≡ a). subst (λ z. own by p z ≡ own by p a ++ gained a z) (sym e) (rw (drop-length a) (sym (append-nil (own by p a)))))
      (λ (t : (e : E) × (by e ≡ p) × (b ≡ a ++ e ∷ [])). subst (λ z. own by p z ≡ own by p a ++ gained a z) (sym t.2)
      (filter-append (λ e. eqb (by e) p) a (t.0 ∷ []) ∙ (ap (λ z. own by p a ++ z) (own_one by p t.0 t.1 ∙ sym (drop-append_seam a (t.0 ∷ [])))))) adds

  pub own_others : (by : E → ℕ) (p q : ℕ) (a b : List E) → q ≢ p → AddsOneAtMost by p a b → own by q b ≡ own by q a
  own_others by p q a b ne adds = ⊎_elim
      (λ (e : b ≡ a). ap (own by q) e)
      (λ (t : (e : E) × (by e ≡ p) × (b ≡ a ++ e ∷ [])). ap (own by q) t.2 ∙ (filter-append (λ e. eqb (by e) q) a (t.0 ∷ []) ∙ (ap (λ z. own by q a ++ z) (own_not by q t.0 (λ is. ne (sym is ∙ t.1))) ∙ append-nil (own by q a)))) adds

  pub bears_later : (by : E → ℕ) (p n : ℕ) (a b : List E) → p < n → AddsOneAtMost by p a b → All (λ e. by e < n) a → All (λ e. by e < n) b
  bears_later by p n a b below adds h = ⊎_elim
      (λ (e : b ≡ a). subst (All (λ (z : E). by z < n)) (sym e) h)
      (λ (t : (e : E) × (by e ≡ p) × (b ≡ a ++ e ∷ [])). subst (All (λ (z : E). by z < n)) (sym t.2) (All-push (λ (z : E). by z < n) a t.0 h (let is = t.1 in omega arith))) adds

module _ {V : Type 0} where
  -- what holds at each place holds of all
  pub all_at : (P : V → Type 0) (vs : List V) → ((m : ℕ) (v : V) → get_elem? vs m ≡ some v → P v) → All P vs
  all_at P [] h = All-nil P
  all_at P (v ∷ vs) h = All-cons P v vs (h 0 v refl) (all_at P vs (λ m w e. h (suc m) w e))

-- a function of numbers, changed at one
abbrev choose : {P : Type 0} → Dec P → ℕ → ℕ → ℕ
choose (yes _) a b = a
choose (no _) a b = b

pub put : (ℕ → ℕ) → ℕ → ℕ → ℕ → ℕ
put f i c j = choose (ℕ_discrete j i) c (f j)

pub put_here : (f : ℕ → ℕ) (i c : ℕ) → put f i c i ≡ c
unfolding put
put_here f i c = go (ℕ_discrete i i) where
  go : (d : Dec (i ≡ i)) → choose d c (f i) ≡ c
  go (yes _) = refl
  go (no n) = absurd (n refl)

pub put_else : (f : ℕ → ℕ) (i c j : ℕ) → j ≢ i → put f i c j ≡ f j
unfolding put
put_else f i c j ne = go (ℕ_discrete j i) where
  go : (d : Dec (j ≡ i)) → choose d c (f j) ≡ f j
  go (yes e) = absurd (ne e)
  go (no _) = refl

module _ {V : Type 0} where
  total_one : (f : V → ℕ) (vs : List V) (j : ℕ) (w : V) → get_elem? vs j ≡ some w → f w ≤ total f vs
  total_one f [] j w e = absurd (some-ne-none w (sym e))
  total_one f (x ∷ xs) zero w e = let h : f x ≡ f w = ap f (some-injective x w e) in omega arith
  total_one f (x ∷ xs) (suc j) w e = let h = total_one f xs j w e in omega arith

  -- where one view has all, the others have nothing
  pub total_two : (f : V → ℕ) (vs : List V) (i j : ℕ) (v w : V) → get_elem? vs i ≡ some v → get_elem? vs j ≡ some w → j ≢ i → f v + f w ≤ total f vs
  total_two f [] i j v w e e' ne = absurd (some-ne-none v (sym e))
  total_two f (x ∷ xs) zero zero v w e e' ne = absurd (ne refl)
  total_two f (x ∷ xs) zero (suc j) v w e e' ne = let h : f x ≡ f v = ap f (some-injective x v e) in let g = total_one f xs j w e' in omega arith
  total_two f (x ∷ xs) (suc i) zero v w e e' ne = let h : f x ≡ f w = ap f (some-injective x w e') in let g = total_one f xs i v e in omega arith
  total_two f (x ∷ xs) (suc i) (suc j) v w e e' ne = let h = total_two f xs i j v w e e' (λ z. ne (ap suc z)) in omega arith

  total_none : (f g : V → ℕ) → ((w : V) → f w ≡ 0 → g w ≡ 0) → (vs : List V) → total f vs ≡ 0 → total g vs ≡ 0
  total_none f g none [] e = refl
  total_none f g none (x ∷ xs) e = let here = none x (omega arith) in let there = total_none f g none xs (omega arith) in omega arith

  -- where one view has all of f, and who has none of f has none of g, it has all of g
  pub total_only : (f g : V → ℕ) → ((w : V) → f w ≡ 0 → g w ≡ 0) → (vs : List V) (i : ℕ) (v : V) → get_elem? vs i ≡ some v → total f vs ≡ f v → total g vs ≡ g v
  total_only f g none [] i v e all = absurd (some-ne-none v (sym e))
  total_only f g none (x ∷ xs) zero v e all = let is = some-injective x v e in let h : f x ≡ f v = ap f is in let h' : g x ≡ g v = ap g is in let rest = total_none f g none xs (omega arith) in omega arith
  total_only f g none (x ∷ xs) (suc i) v e all = let most = total_one f xs i v e in let here = none x (omega arith) in let rest = total_only f g none xs i v e (omega arith) in omega arith

  pub at_both : (a b : List V) (m : ℕ) (k : V) → get_elem? (a ++ b) m ≡ some k → ((l : ℕ) × (get_elem? a l ≡ some k)) ⊎ ((l : ℕ) × (get_elem? b l ≡ some k))
  at_both [] b m k e = inr (m, e)
  at_both (x ∷ xs) b zero k e = inl (zero, e)
  at_both (x ∷ xs) b (suc m) k e = ⊎_elim (λ (t : (l : ℕ) × (get_elem? xs l ≡ some k)). inl (suc t.0, t.1)) (λ t. inr t) (at_both xs b m k e)

-- what was i or j is i
pub moved : (ℕ → ℕ) → ℕ → ℕ → ℕ → ℕ
moved f i j p = choose (ℕ_discrete (f p) j) i (f p)

pub moved_here : (f : ℕ → ℕ) (i j p : ℕ) → f p ≡ j → moved f i j p ≡ i
unfolding moved
moved_here f i j p e = go (ℕ_discrete (f p) j) where
  go : (d : Dec (f p ≡ j)) → choose d i (f p) ≡ i
  go (yes _) = refl
  go (no n) = absurd (n e)

pub moved_else : (f : ℕ → ℕ) (i j p : ℕ) → f p ≢ j → moved f i j p ≡ f p
unfolding moved
moved_else f i j p ne = go (ℕ_discrete (f p) j) where
  go : (d : Dec (f p ≡ j)) → choose d i (f p) ≡ f p
  go (yes e) = absurd (ne e)
  go (no _) = refl

-- The steps of one call, put together.
use Rattle.std.proofs.Common.{◌≡◌, ℕ, List, [], ◌∷◌, ◌++◌, map, sym, refl, ap, ◌∙◌, subst}
use Rattle.std.specs.Prelude.{Option, Some, None, option_map}
use Rattle.turnstile.specs.declared.view.Known.{Known}
use Rattle.turnstile.specs.declared.view.Terms.{Terms}
use Rattle.turnstile.specs.Logs.{StartsWith, own, gained, Grown}
use Rattle.turnstile.specs.Steps.{SeatState, counted, with_turn, with_ticket, with_core, with_count, IsFresh, known_after, view_after, first_known}
use Rattle.turnstile.specs.Passes.{Identity, TurnstileState, PassState}
use Rattle.turnstile.specs.Places.{lock_at, terms_of, known_of, held_of, IsAtRest}
use Rattle.turnstile.specs.Turned.{Turned}
use Rattle.turnstile.proofs.Lists.{own_mine}

-- the seat of what has this lock is of that table, and has its terms
pub at_lock : {F : Type 0} (z y : Identity) (t : Option (Terms F)) (u : Terms F) → option_map (lock_at z) t ≡ Some (lock_at y u) → (z ≡ y) × (t ≡ Some u)
at_lock z y None u e = cc
at_lock z y (Some t) u e = let same : lock_at z t ≡ lock_at y u = cc in (ap (λ l. l.identity) same, ap (λ l. Some (terms_of l)) same)

pub at_rest : {O E F : Type 0} (m : SeatState O E F) (k : Known E) → m.0.passes ≡ k ∷ [] → m.0.ticket ≡ None → m.0.taken ≡ None → m.1 ≡ [] → IsAtRest m
at_rest m k only un out carries = record { only = only ∙ ap (λ z. z ∷ []) (sym (ap first_known only)); no_ticket = un; none_taken = out; carries = carries }

module _ {O E F : Type 0} (m0 m1 : SeatState O E F) (t : ℕ) where
  -- the seat of a pass at rest, once it drew the ticket t
  pub waits : IsAtRest m0 → m1 ≡ (with_ticket m0.0 t, []) → (m1.0.passes ≡ with_turn t (known_of m0) ∷ []) × (m1.0.ticket ≡ Some t) × (m1.0.taken ≡ None) × (m1.1 ≡ [])
  waits rest drew = (ap (λ m. m.0.passes) drew ∙ ap (map (with_turn t)) rest.only, ap (λ m. m.0.ticket) drew, ap (λ m. m.0.taken) drew ∙ rest.none_taken, ap (λ m. m.1) drew)

  -- and once it has taken the object x
  pub has_out : (m2 : SeatState O E F) (x : O) → IsAtRest m0 → m1 ≡ (with_ticket m0.0 t, []) → m2 ≡ (with_core m1.0 x, (0, None) ∷ [])
      → (m2.0.passes ≡ with_turn t (known_of m0) ∷ []) × (m2.0.taken ≡ Some x) × (m2.1 ≡ (0, None) ∷ [])
  has_out m2 x rest drew took = (ap (λ m. m.0.passes) took ∙ (ap (λ m. m.0.passes) drew ∙ ap (map (with_turn t)) rest.only), ap (λ m. m.0.taken) took, ap (λ m. m.1) took)

  -- and once the object is given back as y
  pub known_back : (log : O → List E) (mark : O → ℕ) (m2 m3 : SeatState O E F) (x y : O) → IsAtRest m0 → m1 ≡ (with_ticket m0.0 t, []) → m2 ≡ (with_core m1.0 x, (0, None) ∷ []) → m3 ≡ (view_after log mark y m2.0, [])
      → (m3.0.passes ≡ known_after log mark y (with_turn t (known_of m0)) ∷ []) × (m3.0.terms ≡ m0.0.terms)
  known_back log mark m2 m3 x y rest drew took gave = (ap (λ m. m.0.passes) gave ∙ ap (map (known_after log mark y)) ((has_out m2 x rest drew took).0), ap (λ m. m.0.terms) gave ∙ (ap (λ m. m.0.terms) took ∙ ap (λ m. m.0.terms) drew))

module _ {O E F : Type 0} (log : O → List E) (by : E → ℕ) (mark : O → ℕ) (fix : O → F) where
  -- what may be asked of each object behind what the pass has seen may be asked of the one that is found
  pub may_ask : {A : Type 0} (may : O → A → Type 0) (lock : TurnstileState F) (ask : A) (t : ℕ) (x : O) (z : Identity) (m0 : SeatState O E F) (terms : Option (Terms F)) (old : PassState E F) → held_of z m0 ≡ old → terms ≡ Some (terms_of lock) → IsFresh log by mark fix (with_turn t (known_of m0)) terms x
      → ((y : O) → StartsWith (log y) old.seen → fix y ≡ lock.fixed → may y ask) → may x ask
  may_ask may lock ask t x z m0 terms old is are fresh says = says x (subst (λ (p : PassState E F). StartsWith (log x) p.seen) is fresh.seen_is) (fresh.fixed_is (terms_of lock) are)

  -- what the pass is told of a turn that drew the ticket t, found the object x and left it y
  pub turned : {A R : Type 0} (acts : O → ℕ → A → R → O → Type 0) (lock : TurnstileState F) (ask : A) (reply : R) (t : ℕ) (x y : O) (z z' : Identity) (m0 m3 : SeatState O E F) (terms : Option (Terms F)) (old : PassState E F) → held_of z m0 ≡ old
      → m3.0.passes ≡ known_after log mark y (with_turn t (known_of m0)) ∷ [] → terms ≡ Some (terms_of lock) → acts x (known_of m0).number ask reply y → Grown log by mark fix (known_of m0).number x y
      → IsFresh log by mark fix (with_turn t (known_of m0)) terms x → Turned log by mark fix acts lock ask reply old (held_of z' m3)
  turned acts lock ask reply t x y z z' m0 m3 terms old is only are acted grown fresh = let k = known_of m0 in let now : known_of m3 ≡ known_after log mark y (with_turn t k) = ap first_known only in
      subst (λ (p : PassState E F). Turned log by mark fix acts lock ask reply p (held_of z' m3)) is record {
        before = x;
        after = y;
        acted = acted;
        grown = grown;
        fixed_is = fresh.fixed_is (terms_of lock) are;
        seen_before = fresh.seen_is;
        mark_before = fresh.mark_is;
        seen_after = ap (λ (l : Known E). l.seen) now;
        mark_after = ap (λ (l : Known E). l.mark) now;
        mine_after = ap (λ (l : Known E). own by l.number l.seen) now ∙ (own_mine by k.number (log x) (log y) grown.adds ∙ ap (λ w. w ++ gained (log x) (log y)) fresh.made_is);
      }

module _ {E : Type 0} where
  counted_again : (n r : ℕ) (ks : List (Known E)) → map (counted r) (map (counted n) ks) ≡ map (counted r) ks
  counted_again n r [] = refl
  counted_again n r (k ∷ ks) = ap (λ (z : List (Known E)). counted r k ∷ z) (counted_again n r ks)

  drew_anyhow : (n t : ℕ) (ks : List (Known E)) → map (with_turn t) (map (counted n) ks) ≡ map (with_turn t) ks
  drew_anyhow n t [] = refl
  drew_anyhow n t (k ∷ ks) = ap (λ (z : List (Known E)). with_turn t k ∷ z) (drew_anyhow n t ks)

module _ {O E F : Type 0} (m0 : SeatState O E F) where
  -- the seat counts what its pass knew
  pub count_same : IsAtRest m0 → m0 ≡ (with_count m0.0 (known_of m0).drawn, [])
  count_same rest = let same : m0.0.passes ≡ map (counted (known_of m0).drawn) m0.0.passes = rest.only ∙ sym (ap (map (counted (known_of m0).drawn)) rest.only) in λ i. (record m0.0 { passes = same i }, rest.carries i)

  pub count_one : (m : SeatState O E F) (n : ℕ) → IsAtRest m0 → m ≡ (with_count m0.0 n, []) → m.0.passes ≡ counted n (known_of m0) ∷ []
  count_one m n rest is = ap (λ z. z.0.passes) is ∙ ap (map (counted n)) rest.only

  -- it counts anew
  pub count_again : (m m' : SeatState O E F) (n r : ℕ) → m ≡ (with_count m0.0 n, []) → m' ≡ (with_count m.0 r, m.1) → m' ≡ (with_count m0.0 r, [])
  count_again m m' n r is now = now ∙ (ap (λ z. (with_count z.0 r, z.1)) is ∙ (λ i. (record m0.0 { passes = counted_again n r m0.0.passes i }, [])))

  -- it counts its own ticket too
  pub count_ticket : (m m' : SeatState O E F) (n t : ℕ) → m ≡ (with_count m0.0 n, []) → m' ≡ (with_ticket m.0 t, m.1) → m' ≡ (with_ticket m0.0 t, [])
  count_ticket m m' n t is now = now ∙ (ap (λ z. (with_ticket z.0 t, z.1)) is ∙ (λ i. (record m0.0 { passes = drew_anyhow n t m0.0.passes i; ticket = Some t }, [])))

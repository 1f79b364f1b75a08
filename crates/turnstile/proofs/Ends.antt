-- The first state of a table, and the last.
use Rattle.std.proofs.Common.{◌≡◌, ℕ, zero, suc, ◌+◌, ◌-◌, ◌^◌, ◌<◌, ◌≤◌, ◌≢◌, List, [], ◌∷◌, ◌++◌, map, length, sym, refl, ap, ◌∙◌, subst, inl, ⊎_elim, arith, le_refl, append_assoc}
use Rattle.std.proofs.lemmas.List.{length-map}
use Rattle.std.proofs.lemmas.List.Kept.{AllPairs-cons}
use Rattle.std.proofs.lemmas.List.Sums.{sum_by-cons}
use mathlib.Core.Logic.{dite}
use mathlib.Core.Option.{some, some-injective, some-ne-none}
use mathlib.Core.List.{map-append}
use native.Mathlib.Decide.{ℕ_discrete}
use lib.ListN.{get_elem?}
use Rattle.std.specs.Prelude.{Option, Some, None, All, AllPairs, sum_by}
use Rattle.atomic_table.specs.Table.{State, opening, Final, Seen}
use Rattle.atomic_table.proofs.Lists.{at_map}
use Rattle.turnstile.specs.declared.view.Known.{Known}
use Rattle.turnstile.specs.declared.view.View.{View}
use Rattle.turnstile.specs.declared.view.Terms.{Terms}
use Rattle.turnstile.specs.Logs.{StartsWith, own}
use Rattle.turnstile.specs.Rule.{total, pass_count, turn_count, ticket_count, Apart, PassFits, ViewFits, Out, Turns, fresh, fresh_from, dealer, opening_view}
use Rattle.turnstile.specs.Passes.{TurnstileState, PassState, passes_from}
use Rattle.turnstile.specs.Steps.{SeatState}
use Rattle.turnstile.specs.Closed.{AreAll, turns_of, Kept, Closed}
use Rattle.turnstile.specs.Places.{terms_of, known_in}
use Rattle.turnstile.proofs.Lists.{total_two, total_only, all_at, starts_here}
use Rattle.turnstile.proofs.Numbers.{are_all}

module _ {E : Type 0} where
  at_fresh : (log : List E) (start p n m : ℕ) (k : Known E) → get_elem? (fresh_from log start p n) m ≡ some k → (fresh log start (p + m) ≡ k) × (m < n)
  at_fresh log start p zero m k e = cc
  at_fresh log start p (suc n) zero k e = (ap (fresh log start) (omega arith) ∙ some-injective _ _ e, omega arith)
  at_fresh log start p (suc n) (suc m) k e = let h = at_fresh log start (suc p) n m k e in (ap (fresh log start) (omega arith) ∙ h.0, (let l = h.1 in omega arith))

  -- one fewer is left to deal
  fresh_step : (log : List E) (start i n : ℕ) → i < n → ◌≡◌ {A = List (Known E)} (fresh_from log start i (n - i)) (fresh log start i ∷ fresh_from log start (i + 1) (n - (i + 1)))
  fresh_step log start i n l = let e : n - i ≡ suc (n - (i + 1)) = omega arith in let f : suc i ≡ i + 1 = omega arith in ap (fresh_from log start i) e ∙ ap (λ z. fresh log start i ∷ fresh_from log start z (n - (i + 1))) f

apart_fresh : (E : Type 0) (log : List E) (start p n : ℕ) → Apart (fresh_from {E = E} log start p n)
apart_fresh E log start p zero = tt
apart_fresh E log start p (suc n) = ((λ m l e. let h = at_fresh log start (suc p) n m l e in λ same. let is : suc p + m ≡ l.number = ap (λ (z : Known E). z.number) h.0 in omega arith), apart_fresh E log start (suc p) n)

turns_fresh : (E : Type 0) (log : List E) (start p n : ℕ) → total (λ k. k.turns) (fresh_from {E = E} log start p n) ≡ 0
turns_fresh E log start p zero = refl
turns_fresh E log start p (suc n) = let h = turns_fresh E log start (suc p) n in omega arith

length_fresh : (E : Type 0) (log : List E) (start p n : ℕ) → length (fresh_from {E = E} log start p n) ≡ n
length_fresh E log start p zero = refl
length_fresh E log start p (suc n) = ap suc (length_fresh E log start (suc p) n)

module _ {E F : Type 0} (log : List E) (lock : TurnstileState F) where
  abbrev pub new_pass : ℕ → PassState E F
  new_pass p = record { lock = Some lock; number = p; seen = log; mark = 0; turns = 0; drawn = lock.start }

  passes_step : (i n : ℕ) → i < n → ◌≡◌ {A = List (PassState E F)} (passes_from log lock i (n - i)) (new_pass i ∷ passes_from log lock (i + 1) (n - (i + 1)))
  passes_step i n l = let e : n - i ≡ suc (n - (i + 1)) = omega arith in let g : suc i ≡ i + 1 = omega arith in ap (passes_from log lock i) e ∙ ap (λ z. new_pass i ∷ passes_from log lock z (n - (i + 1))) g

  pub dealt_all : (i n : ℕ) (xs ys all : List (PassState E F)) (x : PassState E F) → i < n → xs ++ passes_from log lock i (n - i) ≡ all → x ≡ new_pass i → ys ≡ xs ++ x ∷ [] → ys ++ passes_from log lock (i + 1) (n - (i + 1)) ≡ all
  dealt_all i n xs ys all x l before is now = ap (λ z. z ++ passes_from log lock (i + 1) (n - (i + 1))) (now ∙ ap (λ z. xs ++ z ∷ []) is)
      ∙ (append_assoc xs (new_pass i ∷ []) (passes_from log lock (i + 1) (n - (i + 1))) ∙ (ap (λ z. xs ++ z) (sym (passes_step i n l)) ∙ before))

module _ {O E F : Type 0} (log : List E) (lock : TurnstileState F) (i : ℕ) (m : SeatState O E F) where
  -- the seat that deals has the pass of the next number first
  pub next_first : i < lock.count → m ≡ (dealer (fresh_from log lock.start i (lock.count - i)) (Some (terms_of lock)), []) → m ≡ (dealer (fresh log lock.start i ∷ fresh_from log lock.start (i + 1) (lock.count - (i + 1))) (Some (terms_of lock)), [])
  next_first less is = is ∙ ap (λ ks. (dealer ks (Some (terms_of lock)), [])) (fresh_step log lock.start i lock.count less)

module _ {E F : Type 0} where
  pub known_off : (old new : List (PassState E F)) (x : PassState E F) (ks : List (Known E)) → old ≡ new ++ x ∷ [] → map known_in new ++ (known_in x ∷ ks) ≡ map known_in old ++ ks
  known_off old new x ks e = sym (ap (λ z. map known_in z ++ ks) e ∙ (ap (λ z. z ++ ks) (map-append known_in new (x ∷ [])) ∙ append_assoc (map known_in new) (known_in x ∷ []) ks))

  apart_held : (ps : List (PassState E F)) → Apart (map known_in ps) → AllPairs (λ (p : PassState E F) (q : PassState E F). p.number ≢ q.number) ps
  apart_held [] h = λ i j d l m. absurd (omega arith)
  apart_held (p ∷ ps) h = AllPairs-cons (λ (p : PassState E F) (q : PassState E F). p.number ≢ q.number) p ps
      (all_at (λ (q : PassState E F). p.number ≢ q.number) ps (λ m q e. λ same. h.0 m (known_in q) (at_map known_in ps m q e) (sym same))) (apart_held ps h.1)

  turns_held : (ps : List (PassState E F)) → total (λ k. k.turns) (map known_in ps) ≡ sum_by (λ p. p.turns) ps
  turns_held [] = refl
  turns_held (p ∷ ps) = let h = turns_held ps in let s = sum_by-cons (λ (q : PassState E F). q.turns) p ps in omega arith

  no_turns : {O : Type 0} (v : View O E F) → pass_count v ≡ 0 → turn_count v ≡ 0
  no_turns v = none v.passes
    where
      none : (ks : List (Known E)) → length ks ≡ 0 → total (λ k. k.turns) ks ≡ 0
      none [] e = refl
      none (k ∷ ks) e = absurd (omega arith)

module _ {O E F : Type 0} (log : O → List E) (by : E → ℕ) (mark : O → ℕ) (fix : O → F) where
  module _ (terms : Terms F) where
    abbrev Rule : State (Option O) (View O E F) → Type 0
    Rule = Turns log by mark fix terms

    abbrev Fits : O → ℕ → ℕ → (ℕ → ℕ) → (ℕ → ℕ) → ℕ → View O E F → Type 0
    Fits core ticket serving queue owner = ViewFits log by mark core ticket serving queue owner terms

    -- the rule holds of a new table
    pub opens : (core : O) → All (λ e. by e < terms.count) (log core) → fix core ≡ terms.fixed → terms.start ≤ 2 ^ 62 → Rule (opening (terms.start ∷ terms.start ∷ []) (Some core ∷ []) (opening_view (log core) terms))
    opens core bears is low = record {
      core = core;
      ticket = terms.start;
      serving = terms.start;
      queue = λ t. 0;
      owner = λ p. 0;
      words = refl;
      waiting = (let no_tickets : total (ticket_count {O = O} {E = E} {F = F}) (opening_view (log core) terms ∷ []) ≡ 0 = refl in omega arith);
      bound = low;
      slot = inl refl;
      views = λ j v e. at_first (Fits core terms.start terms.start (λ t. 0) (λ p. 0)) (opening_view (log core) terms) j v record {
        passes = λ m k h. let f = at_fresh (log core) terms.start 0 terms.count m k h in let less = f.1 in subst (PassFits by (log core) (mark core) terms.start terms.count (λ p. 0) 0) f.0
            record { below = omega arith; owned = refl; seen = starts_here (log core); made = refl; mark = omega arith; drawn = le_refl terms.start };
        apart = apart_fresh E (log core) terms.start 0 terms.count;
        told = (log core, refl);
        told_mark = omega arith;
        ticket_is = λ t e. absurd cc;
        taken_is = λ x e. absurd cc;
        terms_is = λ t e. cc;
      } e;
      all = ap (λ z. z + 0) (length_fresh E (log core) terms.start 0 terms.count) ∙ omega arith;
      drawn = (let h = turns_fresh E (log core) terms.start 0 terms.count in omega arith);
      bears = bears;
      fixed = is;
    }
      where
        at_first : (K : ℕ → View O E F → Type 0) (w : View O E F) (j : ℕ) (v : View O E F) → K 0 w → get_elem? (w ∷ []) j ≡ some v → K j v
        at_first K w zero v h e = subst (K 0) (some-injective _ _ e) h
        at_first K w (suc j) v h e = absurd (some-ne-none v (sym e))

    -- what a seat that has all passes shows of the core
    record Last (v : View O E F) (x : O) : Type 0 where
      pub bears : All (λ e. by e < terms.count) (log x)
      pub stays : fix x ≡ terms.fixed
      pub apart : Apart v.passes
      pub each : (m : ℕ) (k : Known E) → get_elem? v.passes m ≡ some k → (k.number < terms.count) × StartsWith (log x) k.seen × (own by k.number (log x) ≡ own by k.number k.seen) × (k.mark ≤ mark x)
          × (k.drawn ≤ terms.start + turn_count v)
      pub bound : terms.start + turn_count v ≤ 2 ^ 62

    -- no other seat has a ticket then: the object is at home
    closes : (id : ℕ) (v : View O E F) (ws : List ℕ) (xs : List (Option O)) (o : Option O) → length v.passes ≡ terms.count → v.ticket ≡ None → get_elem? xs 0 ≡ some o → Final (Seen Rule id v) ws xs → (x : O) × (o ≡ Some x) × Last v x
    closes id v ws xs o whole un found fin = let s = fin.0 in let r = fin.1.0 in let at = fin.1.1 in let f = r.views id v at in let all = r.all in
        let home : s.homes ≡ some (Some r.core) ∷ [] = ⊎_elim (λ (h : s.homes ≡ some (Some r.core) ∷ []). h)
        (λ (out : Out r.core (r.queue r.serving) s). let j : ℕ = r.queue r.serving in let g = r.views j out.1 out.2 in let t = (g.taken_is r.core out.3).1 in let one = (g.ticket_is r.serving t).3 in
        dite (ℕ_discrete j id)
        (λ e. let same : out.1 ≡ v = some-injective _ _ (sym out.2 ∙ (ap (get_elem? s.views) e ∙ at)) in let c : None ≡ Some r.serving = sym un ∙ (ap (λ z. z.ticket) (sym same) ∙ t) in absurd cc)
        (λ ne. let two = total_two pass_count s.views id j v out.1 at out.2 ne in absurd (omega arith))) r.slot in
        let is : o ≡ Some r.core = some-injective _ _ (sym found ∙ fin.4 0 (Some r.core) (ap (λ z. get_elem? z 0) home)) in
        let turns : terms.start + turn_count v ≡ r.ticket = (let mine = total_only pass_count turn_count no_turns s.views id v at (all ∙ sym whole) in let d = r.drawn in omega arith) in (
          r.core,
          is,
          record {
            bears = r.bears;
            stays = r.fixed;
            apart = f.apart;
            each = λ m k e. let p = f.passes m k e in (p.below, p.seen, p.made, p.mark, (let d = p.drawn in omega arith));
            bound = (let b = r.bound in omega arith);
          },
        )

  -- the turnstile is closed with all its passes
  abbrev pub Ended : TurnstileState F → List (PassState E F) → O → Type 0
  Ended lock ps x = Closed log by mark fix lock ps x × AreAll lock ps

  all_ended : (lock : TurnstileState F) (v : View O E F) (ps : List (PassState E F)) (x : O) → v.passes ≡ map known_in ps → length ps ≡ lock.count → Last (terms_of lock) v x → AreAll lock ps
  all_ended lock v ps x are whole l = are_all lock ps whole (apart_held ps (subst Apart are l.apart))
      (all_at (λ (p : PassState E F). p.number < lock.count) ps (λ m p e. (l.each m (known_in p) (ap (λ z. get_elem? z m) are ∙ at_map known_in ps m p e)).0))

  closed_as : (lock : TurnstileState F) (v : View O E F) (ps : List (PassState E F)) (x : O) → v.passes ≡ map known_in ps → Last (terms_of lock) v x → Closed log by mark fix lock ps x
  closed_as lock v ps x are l = record {
    fixed_is = l.stays;
    bears = l.bears;
    kept = all_at (Kept log by mark x) ps (λ m p e. let h = each m p e in record { seen = h.1; made = h.2; marked = h.3 });
    drawn = all_at (λ (p : PassState E F). p.drawn ≤ turns_of lock ps) ps (λ m p e. let h = (each m p e).4 in let t = turns in omega arith);
    bound = (let h = l.bound in let t = turns in omega arith);
  }
    where
      turns : turn_count v ≡ sum_by (λ p. p.turns) ps
      turns = ap (total (λ (k : Known E). k.turns)) are ∙ turns_held ps

      each : (m : ℕ) (p : PassState E F) → get_elem? ps m ≡ some p → (p.number < lock.count) × StartsWith (log x) p.seen × (own by p.number (log x) ≡ own by p.number p.seen) × (p.mark ≤ mark x)
          × (p.drawn ≤ lock.start + turn_count v)
      each m p e = l.each m (known_in p) (ap (λ z. get_elem? z m) are ∙ at_map known_in ps m p e)

  -- the object that comes out of the slot
  pub closed_at : (lock : TurnstileState F) (id : ℕ) (v : View O E F) (ws : List ℕ) (xs : List (Option O)) (o : Option O) (ps : List (PassState E F)) → v.passes ≡ map known_in ps → length ps ≡ lock.count → v.ticket ≡ None → get_elem? xs 0 ≡ some o
      → Final (Seen (Turns log by mark fix (terms_of lock)) id v) ws xs → (x : O) × (o ≡ Some x) × Ended lock ps x
  closed_at lock id v ws xs o ps are whole un found fin = let c = closes (terms_of lock) id v ws xs o (ap length are ∙ (length-map ps known_in ∙ whole)) un found fin in (c.0, c.1, (closed_as lock v ps c.0 are c.2, all_ended lock v ps c.0 are whole c.2))

  pub closed_same : (lock lock' : TurnstileState F) (o : Option O) (x : O) (ps : List (PassState E F)) → lock ≡ lock' → o ≡ Some x → (y : O) × (o ≡ Some y) × Ended lock ps y → Ended lock' ps x
  closed_same lock lock' o x ps same is c = let one : c.0 ≡ x = (let e : Some c.0 ≡ Some x = sym c.1 ∙ is in cc) in subst (λ (l : TurnstileState F). Ended l ps x) same (subst (Ended lock ps) one c.2)

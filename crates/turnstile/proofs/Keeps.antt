-- Each step on a word keeps the rule.
use Rattle.std.proofs.Common.{◌≡◌, ℕ, zero, suc, ◌+◌, ◌%◌, ◌^◌, ◌<◌, ◌≤◌, eqb, ◌≢◌, List, [], ◌∷◌, map, length, get_or, set, sym, refl, ap, ◌∙◌, subst, inl, inr, ⊎_elim, arith, le_refl}
use Rattle.std.proofs.lemmas.List.{length-map}
use mathlib.Core.Logic.{dite}
use mathlib.Core.Option.{none, some, some-injective}
use native.Mathlib.Decide.{ℕ_discrete}
use lib.ListN.{get_elem?}
use lib.Seq.{set-get_or}
use prog.Atomic.{either}
use Rattle.std.specs.Prelude.{Option, Some, None}
use Rattle.atomic_table.specs.Table.{State, Act, step, keeps, takes, gives, put_back, rest, Valid, carried_after, stepped, Allows}
use Rattle.atomic_table.proofs.Lists.{set_else, set_again, exchanged}
use Rattle.turnstile.specs.declared.view.Known.{Known}
use Rattle.turnstile.specs.declared.view.View.{View}
use Rattle.turnstile.specs.declared.view.Terms.{Terms}
use Rattle.turnstile.specs.Logs.{StartsWith, own, Grown}
use Rattle.turnstile.specs.Rule.{total, pass_count, turn_count, tickets, ticket_count, Apart, PassFits, ViewFits, Out, IsPlaced, Turns}
use Rattle.turnstile.specs.Steps.{SeatState, counted, with_turn, with_ticket, with_core, with_count, counts, draws, called, known_after, view_after, ends, learned, learns}
use Rattle.turnstile.proofs.Lists.{total_set, total_same, seats_stay, set_there, starts_later, starts_here, adds_start, own_others, bears_later, put, put_here, put_else}

abbrev first_value : {O : Type 0} → List (ℕ × Option O) → Option O
first_value [] = None
first_value (x ∷ xs) = x.1

module _ {E : Type 0} where
  pub at_one : (P : Known E → Type 0) (ks : List (Known E)) (k : Known E) → ks ≡ k ∷ [] → P k → (m : ℕ) (l : Known E) → get_elem? ks m ≡ some l → P l
  at_one P ks k only p zero l e = subst P (some-injective _ _ (sym (ap (λ z. get_elem? z 0) only) ∙ e)) p
  at_one P ks k only p (suc m) l e = let c : none ≡ some l = sym (ap (λ z. get_elem? z (suc m)) only) ∙ e in cc

  at_each : (f : Known E → Known E) (ks : List (Known E)) (m : ℕ) (k : Known E) → get_elem? (map f ks) m ≡ some k → (l : Known E) × (get_elem? ks m ≡ some l) × (f l ≡ k)
  at_each f [] m k e = cc
  at_each f (x ∷ xs) zero k e = (x, refl, some-injective _ _ e)
  at_each f (x ∷ xs) (suc m) k e = at_each f xs m k e

  -- one pass has no other beside it
  pub apart_one : (ks : List (Known E)) (k : Known E) → ks ≡ k ∷ [] → Apart ks
  apart_one ks k only = subst Apart (sym only) ((λ m l e. let c : none ≡ some l = e in cc), tt)

  -- where f leaves the numbers
  apart_each : (f : Known E → Known E) → ((k : Known E) → (f k).number ≡ k.number) → (ks : List (Known E)) → Apart ks → Apart (map f ks)
  apart_each f same [] h = tt
  apart_each f same (k ∷ ks) h = ((λ m l e. let c = at_each f ks m l e in λ is. h.0 m c.0 c.1 (sym (same c.0) ∙ (ap (λ z. z.number) c.2 ∙ (is ∙ same k)))), apart_each f same ks h.1)

  -- where f leaves the turns
  turns_each : (f : Known E → Known E) → ((k : Known E) → (f k).turns ≡ k.turns) → (ks : List (Known E)) → total (λ k. k.turns) (map f ks) ≡ total (λ k. k.turns) ks
  turns_each f same [] = refl
  turns_each f same (k ∷ ks) = let h = turns_each f same ks in let s = same k in omega arith

  turns_drew : (t : ℕ) (ks : List (Known E)) → length ks ≡ 1 → total (λ k. k.turns) (map (with_turn t) ks) ≡ total (λ k. k.turns) ks + 1
  turns_drew t [] one = absurd (omega arith)
  turns_drew t (k ∷ []) one = omega arith
  turns_drew t (k ∷ l ∷ ks) one = absurd (omega arith)

module _ {O E F : Type 0} (log : O → List E) (by : E → ℕ) (mark : O → ℕ) (fix : O → F) (terms : Terms F) where
  abbrev pub SeatView : Type 0
  SeatView = View O E F

  abbrev pub TableState : Type 0
  TableState = State (Option O) SeatView

  abbrev pub Rule : TableState → Type 0
  Rule = Turns log by mark fix terms

  abbrev pub Fits : O → ℕ → ℕ → (ℕ → ℕ) → (ℕ → ℕ) → ℕ → SeatView → Type 0
  Fits core ticket serving queue owner = ViewFits log by mark core ticket serving queue owner terms

  abbrev pub Goes : TableState → ℕ → ℕ → SeatState O E F → (ℕ → SeatState O E F → Type 0) → ℕ → Type 0
  Goes s k id me then x = (w : SeatView) × (a : Act (Option O)) × Valid s.homes me.1 a × Rule (stepped s k x id me.1 w a) × then (get_or s.words k 0) (w, carried_after me.1 a)

  -- the holder still has the object out, where no slot moves
  pub slot_stays : (core : O) (holder : ℕ) (s : TableState) (words : List ℕ) (id : ℕ) (v w : SeatView) → get_elem? s.views id ≡ some v → w.taken ≡ v.taken → IsPlaced core holder s
      → IsPlaced core holder record { words = words; homes = s.homes; views = set s.views id w }
  slot_stays core holder s words id v w at same slot = ⊎_elim (λ (h : s.homes ≡ some (Some core) ∷ []). inl h)
      (λ (o : Out core holder s). inr (dite (ℕ_discrete holder id)
      (λ e. let mine : o.1 ≡ v = some-injective _ _ (sym o.2 ∙ (ap (get_elem? s.views) e ∙ at)) in
      (o.0, w, subst (λ z. get_elem? (set s.views id w) z ≡ some w) (sym e) (set_there s.views id v w at), same ∙ (ap (λ z. z.taken) (sym mine) ∙ o.3)))
      (λ ne. (o.0, o.1, set_else s.views id holder w ne ∙ o.2, o.3)))) slot

  -- who has the object out has a ticket, which is served
  out_ticket : (s : TableState) (r : Rule s) → Out r.core (r.queue r.serving) s → r.serving < r.ticket
  out_ticket s r o = let f = r.views (r.queue r.serving) o.1 o.2 in (f.ticket_is r.serving (f.taken_is r.core o.3).1).1

  -- what another seat knows stays so
  pub later : (core core' : O) (ticket serving ticket' serving' : ℕ) (queue owner queue' owner' : ℕ → ℕ) (j : ℕ) (v : SeatView) → StartsWith (log core') (log core) → mark core ≤ mark core' → ticket ≤ ticket'
      → ((p : ℕ) → owner p ≡ j → (owner' p ≡ j) × (own by p (log core') ≡ own by p (log core)))
      → ((t : ℕ) → serving ≤ t → t < ticket → queue t ≡ j → (serving' ≤ t) × (queue' t ≡ j))
      → (v.taken ≡ Some core → v.ticket ≡ Some serving → (core ≡ core') × (serving ≡ serving'))
      → Fits core ticket serving queue owner j v → Fits core' ticket' serving' queue' owner' j v
  later core core' ticket serving ticket' serving' queue owner queue' owner' j v more rises up names waits out f = record {
    passes = λ m k e. let p = f.passes m k e in let q = names k.number p.owned in let d = p.drawn in let c = p.mark in record {
      below = p.below;
      owned = q.0;
      seen = starts_later k.seen (log core) (log core') p.seen more;
      made = q.1 ∙ p.made;
      mark = omega arith;
      drawn = omega arith;
    };
    apart = f.apart;
    told = starts_later v.told (log core) (log core') f.told more;
    told_mark = (let h = f.told_mark in omega arith);
    ticket_is = λ t e. let h = f.ticket_is t e in let g = waits t h.0 h.1 h.2 in let b = h.1 in (g.0, omega arith, g.1, h.3);
    taken_is = λ x e. let h = f.taken_is x e in let g = out (e ∙ ap Some h.0) h.1 in (h.0 ∙ g.0, h.1 ∙ ap Some g.1);
    terms_is = f.terms_is;
  }

  -- a step at which the seat learns nothing
  unmoved : (s : TableState) (r : Rule s) (i id : ℕ) (me : SeatState O E F) → get_elem? s.views id ≡ some me.0 → Rule (stepped s i (get_or s.words i 0) id me.1 me.0 keeps)
  unmoved s r i id me at = subst Rule (λ k. record { words = sym (set-get_or s.words i 0) k; homes = s.homes; views = sym (set_again s.views id me.0 at) k }) r

  -- a seat whose passes know the same, but for the number of turns drawn
  counted_fits : (core : O) (ticket serving : ℕ) (queue owner : ℕ → ℕ) (j n : ℕ) (v : SeatView) → n ≤ ticket → Fits core ticket serving queue owner j v → Fits core ticket serving queue owner j (with_count v n)
  counted_fits core ticket serving queue owner j n v le f = record {
    passes = λ m k e. let l = at_each (counted n) v.passes m k e in let p = f.passes m l.0 l.1 in
        subst (PassFits by (log core) (mark core) ticket terms.count owner j) l.2 record { below = p.below; owned = p.owned; seen = p.seen; made = p.made; mark = p.mark; drawn = le };
    apart = apart_each (counted n) (λ k. refl) v.passes f.apart;
    told = f.told;
    told_mark = f.told_mark;
    ticket_is = λ t e. let h = f.ticket_is t e in (h.0, h.1, h.2, length-map v.passes (counted n) ∙ h.3);
    taken_is = f.taken_is;
    terms_is = f.terms_is;
  }

  -- a load of the ticket word
  pub counts_goes : (n id : ℕ) (me : SeatState O E F) → Allows Rule n id me 0 (λ y. y) (counts (step n 0 0 0 none) me)
  counts_goes n id me s r wide at _ = let found : ℕ = get_or s.words 0 0 in let is : found ≡ r.ticket = ap (λ z. get_or z 0 0) r.words in let w : SeatView = with_count me.0 found in let f = r.views id me.0 at in (
    w,
    keeps,
    tt,
    record {
      core = r.core;
      ticket = r.ticket;
      serving = r.serving;
      queue = r.queue;
      owner = r.owner;
      words = ap (λ z. set z 0 found) r.words ∙ ap (λ z. z ∷ r.serving ∷ []) is;
      waiting = (let d = r.waiting in let t = total_same ticket_count s.views id me.0 w at refl in omega arith);
      bound = r.bound;
      slot = slot_stays r.core (r.queue r.serving) s (set s.words 0 found) id me.0 w at refl r.slot;
      views = seats_stay (Fits r.core r.ticket r.serving r.queue r.owner) (Fits r.core r.ticket r.serving r.queue r.owner) s.views id w r.views
          (counted_fits r.core r.ticket r.serving r.queue r.owner id found me.0 (omega arith) f) (λ j d _ f. f);
      all = total_same pass_count s.views id me.0 w at (length-map me.0.passes (counted found)) ∙ r.all;
      drawn = (let d = r.drawn in let t = total_same turn_count s.views id me.0 w at (turns_each (counted found) (λ k. refl) me.0.passes) in omega arith);
      bears = r.bears;
      fixed = r.fixed;
    },
    (refl, (let b = r.bound in omega arith), λ k only. let d = (f.passes 0 k (ap (λ z. get_elem? z 0) only)).drawn in omega arith),
  )

  -- a compare_exchange of the ticket word
  pub draws_goes : (n id : ℕ) (me : SeatState O E F) (old new : ℕ) → length me.0.passes ≡ 1 → me.0.ticket ≡ None → me.0.taken ≡ None → old < 2 ^ 62 → new ≡ old + 1
      → Allows Rule n id me 0 (λ y. either (eqb y old) new y) (draws (step n 0 old new none) me)
  draws_goes n id me old new one un none_taken low is_new s r wide at _ = let found : ℕ = get_or s.words 0 0 in let is : found ≡ r.ticket = ap (λ z. get_or z 0 0) r.words in
      let told = draws (step n 0 old new none) me in exchanged found old new (Goes s 0 id me told)
      (λ hit. let w : SeatView = with_ticket me.0 old in let queue' : ℕ → ℕ = put r.queue old id in let f = r.views id me.0 at in let le = r.waiting in (
        w,
        keeps,
        tt,
        record {
          core = r.core;
          ticket = new;
          serving = r.serving;
          queue = queue';
          owner = r.owner;
          words = ap (λ z. set z 0 new) r.words;
          waiting = (let t = total_set ticket_count s.views id me.0 w at in let n : ticket_count me.0 ≡ 0 = ap tickets un in omega arith);
          bound = omega arith;
          slot = ⊎_elim (λ (h : s.homes ≡ some (Some r.core) ∷ []). inl h)
              (λ (o : Out r.core (r.queue r.serving) s). let b = out_ticket s r o in
              subst (λ z. IsPlaced r.core z record { words = set s.words 0 new; homes = s.homes; views = set s.views id w }) (sym (put_else r.queue old id r.serving (λ e. omega arith)))
              (slot_stays r.core (r.queue r.serving) s (set s.words 0 new) id me.0 w at refl (inr o))) r.slot;
          views = seats_stay (Fits r.core r.ticket r.serving r.queue r.owner) (Fits r.core new r.serving queue' r.owner) s.views id w r.views
              record {
                passes = λ m k e. let l = at_each (with_turn old) me.0.passes m k e in let p = f.passes m l.0 l.1 in
                    subst (PassFits by (log r.core) (mark r.core) new terms.count r.owner id) l.2 record { below = p.below; owned = p.owned; seen = p.seen; made = p.made; mark = p.mark; drawn = omega arith };
                apart = apart_each (with_turn old) (λ k. refl) me.0.passes f.apart;
                told = f.told;
                told_mark = f.told_mark;
                ticket_is = λ t e. let same : old ≡ t = cc in (omega arith, omega arith, subst (λ z. queue' z ≡ id) same (put_here r.queue old id), length-map me.0.passes (with_turn old) ∙ one);
                taken_is = λ x e. absurd (let c : None ≡ Some x = sym none_taken ∙ e in cc);
                terms_is = f.terms_is;
              }
              (λ j d other g. later r.core r.core r.ticket r.serving new r.serving r.queue r.owner queue' r.owner j d (starts_here (log r.core)) (le_refl (mark r.core)) (omega arith)
              (λ p e. (e, refl)) (λ t a b e. (a, put_else r.queue old id t (λ z. omega arith) ∙ e)) (λ _ _. (refl, refl)) g);
          all = total_same pass_count s.views id me.0 w at (length-map me.0.passes (with_turn old)) ∙ r.all;
          drawn = (let d = r.drawn in let t = total_set turn_count s.views id me.0 w at in let n = turns_drew old me.0.passes one in omega arith);
          bears = r.bears;
          fixed = r.fixed;
        },
        ((λ _. refl), λ miss. absurd (miss hit)),
      ))
      (λ miss. (me.0, keeps, tt, unmoved s r 0 id me at, ((λ hit. absurd (miss hit)), λ _. refl)))

  -- a load of the served word, which takes the object
  pub called_goes : (n id : ℕ) (me : SeatState O E F) (t : ℕ) → me.0.ticket ≡ Some t → me.0.taken ≡ None → Allows Rule n id me 1 (λ y. y) (called log by mark fix (step n 1 0 0 none) me)
  called_goes n id me t has none_taken s r wide at _ = let found : ℕ = get_or s.words 1 0 in let is : found ≡ r.serving = ap (λ z. get_or z 1 0) r.words in let f = r.views id me.0 at in
      dite (ℕ_discrete found t)
      (λ hit. let w : SeatView = with_core me.0 r.core in let tick = f.ticket_is t has in let here : r.queue r.serving ≡ id = ap r.queue (sym is ∙ hit) ∙ tick.2 in
      let home : s.homes ≡ some (Some r.core) ∷ [] = ⊎_elim (λ (h : s.homes ≡ some (Some r.core) ∷ []). h)
      (λ (o : Out r.core (r.queue r.serving) s). let mine : o.1 ≡ me.0 = some-injective _ _ (sym o.2 ∙ (ap (get_elem? s.views) here ∙ at)) in
      let c : None ≡ Some r.core = sym none_taken ∙ (ap (λ z. z.taken) (sym mine) ∙ o.3) in cc) r.slot in (
        w,
        takes 0 (Some r.core),
        ap (λ z. get_elem? z 0) home,
        record {
          core = r.core;
          ticket = r.ticket;
          serving = r.serving;
          queue = r.queue;
          owner = r.owner;
          words = ap (λ z. set z 1 found) r.words ∙ ap (λ z. r.ticket ∷ z ∷ []) is;
          waiting = (let d = r.waiting in let t = total_same ticket_count s.views id me.0 w at refl in omega arith);
          bound = r.bound;
          slot = inr (ap (λ z. set z 0 none) home, w, subst (λ z. get_elem? (set s.views id w) z ≡ some w) (sym here) (set_there s.views id me.0 w at), refl);
          views = seats_stay (Fits r.core r.ticket r.serving r.queue r.owner) (Fits r.core r.ticket r.serving r.queue r.owner) s.views id w r.views
              record { passes = f.passes; apart = f.apart; told = f.told; told_mark = f.told_mark; ticket_is = f.ticket_is; taken_is = λ x e. (let c : r.core ≡ x = cc in sym c, has ∙ ap Some (sym hit ∙ is)); terms_is = f.terms_is }
              (λ j d _ g. g);
          all = total_same pass_count s.views id me.0 w at refl ∙ r.all;
          drawn = (let d = r.drawn in let t = total_same turn_count s.views id me.0 w at (refl) in omega arith);
          bears = r.bears;
          fixed = r.fixed;
        },
        λ k t' only e. (
          (λ _. (r.core, refl, let p = f.passes 0 k (ap (λ z. get_elem? z 0) only) in record { seen_is = p.seen; made_is = p.made; mark_is = p.mark; fixed_is = λ y e. r.fixed ∙ ap (λ z. z.fixed) (sym (f.terms_is y e)) })),
          λ miss. absurd (miss (let same : t ≡ t' = cc in hit ∙ same)),
        ),
      ))
      (λ miss. (me.0, keeps, tt, unmoved s r 1 id me at, λ k t' only e. ((λ hit. absurd (miss (let same : t' ≡ t = cc in hit ∙ same))), λ _. refl)))

  -- the pass of a turn that found the object x and left it y
  after_fits : (x y : O) (ticket : ℕ) (owner : ℕ → ℕ) (id : ℕ) (k : Known E) → PassFits by (log x) (mark x) ticket terms.count owner id k
      → PassFits by (log y) (mark y) ticket terms.count owner id (known_after log mark y k)
  after_fits x y ticket owner id k p = record { below = p.below; owned = p.owned; seen = starts_here (log y); made = refl; mark = le_refl (mark y); drawn = p.drawn }

  ends_from : (n id : ℕ) (me : SeatState O E F) (k : Known E) (y : O) → me.0.passes ≡ k ∷ [] → me.1 ≡ (0, Some y) ∷ [] → (s : TableState) (r : Rule s) → get_elem? s.views id ≡ some me.0 → me.0.taken ≡ Some r.core
      → Grown log by mark fix k.number r.core y → Goes s 1 id me (ends log mark (step n 1 1 0 none) me) ((get_or s.words 1 0 + 1) % 2 ^ 64)
  ends_from n id me k y only carries s r at out grown = let found : ℕ = get_or s.words 1 0 in let is : found ≡ r.serving = ap (λ z. get_or z 1 0) r.words in let f = r.views id me.0 at in let x : O = r.core in
      let p = f.passes 0 k (ap (λ z. get_elem? z 0) only) in let tick = (f.taken_is x out).1 in let q = f.ticket_is r.serving tick in let less : r.serving < r.ticket = q.1 in let b = r.bound in
      let next : (found + 1) % 2 ^ 64 ≡ r.serving + 1 = omega arith in let w : SeatView = view_after log mark y me.0 in let adds = grown.adds in
      let more : StartsWith (log y) (log x) = adds_start by k.number (log x) (log y) adds in let rises : mark x ≤ mark y = grown.rises in
      let single : w.passes ≡ known_after log mark y k ∷ [] = ap (map (known_after log mark y)) only in (
        w,
        gives,
        tt,
        record {
          core = y;
          ticket = r.ticket;
          serving = r.serving + 1;
          queue = r.queue;
          owner = r.owner;
          words = ap (λ z. set z 1 ((found + 1) % 2 ^ 64)) r.words ∙ ap (λ z. r.ticket ∷ z ∷ []) next;
          waiting = (let d = r.waiting in let t = total_set ticket_count s.views id me.0 w at in let n : ticket_count me.0 ≡ 1 = ap tickets tick in omega arith);
          bound = b;
          slot = inl (ap (put_back s.homes) carries ∙ ⊎_elim (λ (h : s.homes ≡ some (Some x) ∷ []). ap (λ z. set z 0 (some (Some y))) h) (λ (o : Out x (r.queue r.serving) s). ap (λ z. set z 0 (some (Some y))) o.0) r.slot);
          views = seats_stay (Fits x r.ticket r.serving r.queue r.owner) (Fits y r.ticket (r.serving + 1) r.queue r.owner) s.views id w r.views
              record {
                passes = λ m l e. at_one (PassFits by (log y) (mark y) r.ticket terms.count r.owner id) w.passes _ single (after_fits x y r.ticket r.owner id k p) m l e;
                apart = apart_one w.passes _ single;
                told = starts_later me.0.told (log x) (log y) f.told more;
                told_mark = (let h = f.told_mark in omega arith);
                ticket_is = λ t e. absurd cc;
                taken_is = λ z e. absurd cc;
                terms_is = f.terms_is;
              }
              (λ j d other g. later x y r.ticket r.serving r.ticket (r.serving + 1) r.queue r.owner r.queue r.owner j d more rises (le_refl r.ticket)
              (λ a e. (e, own_others by k.number a (log x) (log y) (λ same. other (sym e ∙ (ap r.owner same ∙ p.owned))) adds))
              (λ t a _ e. ((let ne : r.serving ≢ t = λ same. other (sym e ∙ (ap r.queue (sym same) ∙ q.2)) in omega arith), e))
              (λ _ e. absurd (other (sym ((g.ticket_is r.serving e).2) ∙ q.2))) g);
          all = total_same pass_count s.views id me.0 w at (ap length single ∙ sym (ap length only)) ∙ r.all;
          drawn = (let d = r.drawn in let t = total_same turn_count s.views id me.0 w at (turns_each (known_after log mark y) (λ k. refl) me.0.passes) in omega arith);
          bears = bears_later by k.number terms.count (log x) (log y) p.below adds r.bears;
          fixed = grown.stays ∙ r.fixed;
        },
        λ y' carries'. let both : Some y ≡ Some y' = ap first_value (sym carries ∙ carries') in let sy : y ≡ y' = cc in (λ i. (view_after log mark (sy i) me.0, rest (carries i))),
      )

  -- the fetch_add of the served word
  pub ends_goes : (n id : ℕ) (me : SeatState O E F) (k : Known E) (x y : O) → me.0.passes ≡ k ∷ [] → me.0.taken ≡ Some x → me.1 ≡ (0, Some y) ∷ [] → Grown log by mark fix k.number x y
      → Allows Rule n id me 1 (λ v. (v + 1) % 2 ^ 64) (ends log mark (step n 1 1 0 none) me)
  ends_goes n id me k x y only out carries grown s r wide at _ = let same : x ≡ r.core = ((r.views id me.0 at).taken_is x out).0 in
      ends_from n id me k y only carries s r at (out ∙ ap Some same) (subst (λ z. Grown log by mark fix k.number z y) same grown)

  -- a load of the ticket word, by which the pass learns the history
  pub learns_goes : (n id : ℕ) (me : SeatState O E F) (k : Known E) → me.0.passes ≡ k ∷ [] → Allows Rule n id me 0 (λ y. y) (learns by (step n 0 0 0 none) me)
  learns_goes n id me k only s r wide at _ = let found : ℕ = get_or s.words 0 0 in let is : found ≡ r.ticket = ap (λ z. get_or z 0 0) r.words in let h : List E = log r.core in let most : ℕ = mark r.core in
      let w : SeatView = record me.0 { passes = map (learned h most) me.0.passes } in let f = r.views id me.0 at in let p = f.passes 0 k (ap (λ z. get_elem? z 0) only) in
      let single : w.passes ≡ learned h most k ∷ [] = ap (map (learned h most)) only in (
        w,
        keeps,
        tt,
        record {
          core = r.core;
          ticket = r.ticket;
          serving = r.serving;
          queue = r.queue;
          owner = r.owner;
          words = ap (λ z. set z 0 found) r.words ∙ ap (λ z. z ∷ r.serving ∷ []) is;
          waiting = (let d = r.waiting in let t = total_same ticket_count s.views id me.0 w at refl in omega arith);
          bound = r.bound;
          slot = slot_stays r.core (r.queue r.serving) s (set s.words 0 found) id me.0 w at refl r.slot;
          views = seats_stay (Fits r.core r.ticket r.serving r.queue r.owner) (Fits r.core r.ticket r.serving r.queue r.owner) s.views id w r.views
              record {
                passes = λ m l e. at_one (PassFits by (log r.core) (mark r.core) r.ticket terms.count r.owner id) w.passes (learned h most k) single
                    record { below = p.below; owned = p.owned; seen = starts_here h; made = refl; mark = le_refl most; drawn = p.drawn } m l e;
                apart = apart_one w.passes (learned h most k) single;
                told = f.told;
                told_mark = f.told_mark;
                ticket_is = λ t e. let q = f.ticket_is t e in (q.0, q.1, q.2, ap length single);
                taken_is = f.taken_is;
                terms_is = f.terms_is;
              }
              (λ j d _ g. g);
          all = total_same pass_count s.views id me.0 w at (ap length single ∙ sym (ap length only)) ∙ r.all;
          drawn = (let d = r.drawn in let t = total_same turn_count s.views id me.0 w at (turns_each (learned h most) (λ k. refl) me.0.passes) in omega arith);
          bears = r.bears;
          fixed = r.fixed;
        },
        λ k' only'. let q = f.passes 0 k' (ap (λ z. get_elem? z 0) only') in (h, most, q.seen, f.told, q.mark, f.told_mark, q.made, refl),
      )

-- Views that are cut in two and joined keep the rule.
use Rattle.std.proofs.Common.{◌≡◌, ℕ, zero, suc, ◌+◌, ◌≤◌, ◌≢◌, ◌⊎◌, List, [], ◌∷◌, ◌++◌, length, set, sym, refl, ap, ◌∙◌, subst, inl, inr, ⊎_elim, arith, le_refl, length-set, length-append}
use mathlib.Core.Option.{some, some-injective, some-ne-none}
use lib.ListN.{get_elem?}
use Rattle.std.specs.Prelude.{Option, Some, None}
use Rattle.atomic_table.specs.Table.{State, Splits, Joins}
use Rattle.atomic_table.proofs.Lists.{at_longer, set_else, at_set}
use Rattle.turnstile.specs.declared.view.Known.{Known}
use Rattle.turnstile.specs.declared.view.View.{View}
use Rattle.turnstile.specs.declared.view.Terms.{Terms}
use Rattle.turnstile.specs.Logs.{StartsWith}
use Rattle.turnstile.specs.Rule.{total, pass_count, turn_count, tickets, ticket_count, Apart, PassFits, ViewFits, Out, Turns, dealer}
use Rattle.turnstile.specs.Steps.{first_known, first_pass, other_passes, dealt, dealt_one, note_of, spent_view, heard, gathered}
use Rattle.turnstile.proofs.Lists.{total_set, total-append, total_snoc, seats_stay, starts_here, put, put_here, put_else, at_both, moved, moved_here, moved_else}
use Rattle.turnstile.proofs.Keeps.{at_one, slot_stays, later}

module _ {V : Type 0} where
  at_end : (l : List V) (a b : V) (j : ℕ) → get_elem? (l ++ a ∷ []) j ≡ some b → (get_elem? l j ≡ some b) ⊎ ((j ≡ length l) × (a ≡ b))
  at_end [] a b zero e = inr (refl, some-injective a b e)
  at_end [] a b (suc j) e = absurd (some-ne-none b (sym e))
  at_end (x ∷ xs) a b zero e = inl e
  at_end (x ∷ xs) a b (suc j) e = ⊎_elim inl (λ (t : (j ≡ length xs) × (a ≡ b)). inr (ap suc t.0, t.1)) (at_end xs a b j e)

module _ {E : Type 0} where
  -- two lists that are each apart, and have no number in common
  apart_both : (xs ys : List (Known E)) → Apart xs → Apart ys → ((m n : ℕ) (k l : Known E) → get_elem? xs m ≡ some k → get_elem? ys n ≡ some l → l.number ≢ k.number) → Apart (xs ++ ys)
  apart_both [] ys ax ay differ = ay
  apart_both (x ∷ xs) ys ax ay differ = (
    (λ m l e. ⊎_elim (λ (t : (i : ℕ) × (get_elem? xs i ≡ some l)). ax.0 t.0 l t.1) (λ (t : (i : ℕ) × (get_elem? ys i ≡ some l)). differ 0 t.0 x l refl t.1) (at_both xs ys m l e)),
    apart_both xs ys ax.1 ay (λ m n k l e d. differ (suc m) n k l e d),
  )

-- where no ticket can be, there is none
no_ticket : (o : Option ℕ) → ((t : ℕ) → o ≡ Some t → ⊥) → tickets o ≡ 0
no_ticket None never = refl
no_ticket (Some t) never = absurd (never t refl)

module _ {O E F : Type 0} (log : O → List E) (by : E → ℕ) (mark : O → ℕ) (fix : O → F) (terms : Terms F) where
  abbrev SeatView : Type 0
  SeatView = View O E F

  abbrev TableState : Type 0
  TableState = State (Option O) SeatView

  abbrev Rule : TableState → Type 0
  Rule = Turns log by mark fix terms

  abbrev Fits : O → ℕ → ℕ → (ℕ → ℕ) → (ℕ → ℕ) → ℕ → SeatView → Type 0
  Fits core ticket serving queue owner = ViewFits log by mark core ticket serving queue owner terms

  -- a view is cut in two
  forks : (s : TableState) (r : Rule s) (id : ℕ) (v left right : SeatView) (owner' : ℕ → ℕ) → get_elem? s.views id ≡ some v → left.taken ≡ v.taken → pass_count left + pass_count right ≡ pass_count v → turn_count left + turn_count right ≡ turn_count v → ticket_count left + ticket_count right ≡ ticket_count v
      → ((p j : ℕ) → r.owner p ≡ j → j ≢ id → owner' p ≡ j)
      → (Fits r.core r.ticket r.serving r.queue r.owner id v → Fits r.core r.ticket r.serving r.queue owner' id left)
      → (Fits r.core r.ticket r.serving r.queue r.owner id v → Fits r.core r.ticket r.serving r.queue owner' (length s.views) right)
      → Rule record { words = s.words; homes = s.homes; views = set s.views id left ++ right ∷ [] }
  forks s r id v left right owner' at same whole drew held others fits_left fits_right = let f = r.views id v at in let cut : List SeatView = set s.views id left in record {
    core = r.core;
    ticket = r.ticket;
    serving = r.serving;
    queue = r.queue;
    owner = owner';
    words = r.words;
    waiting = (let a = total_snoc ticket_count cut right in let b = total_set ticket_count s.views id v left at in let c = r.waiting in omega arith);
    bound = r.bound;
    slot = ⊎_elim (λ (h : s.homes ≡ some (Some r.core) ∷ []). inl h) (λ (o : Out r.core (r.queue r.serving) record { words = s.words; homes = s.homes; views = cut }). inr (o.0, o.1, at_longer cut (right ∷ []) _ _ o.2, o.3))
        (slot_stays log by mark fix terms r.core (r.queue r.serving) s s.words id v left at same r.slot);
    views = λ j d e. ⊎_elim
        (λ (h : get_elem? cut j ≡ some d). seats_stay (Fits r.core r.ticket r.serving r.queue r.owner) (Fits r.core r.ticket r.serving r.queue owner') s.views id left r.views (fits_left f)
        (λ i u other g. later log by mark fix terms r.core r.core r.ticket r.serving r.ticket r.serving r.queue r.owner r.queue owner' i u (starts_here (log r.core)) (le_refl (mark r.core)) (le_refl r.ticket)
        (λ p e'. (others p i e' other, refl)) (λ t a b e'. (a, e')) (λ _ _. (refl, refl)) g) j d h)
        (λ (h : (j ≡ length cut) × (right ≡ d)). subst (λ (z : ℕ × SeatView). Fits r.core r.ticket r.serving r.queue owner' z.0 z.1) (λ i. ((sym (length-set s.views id left) ∙ sym h.0) i, h.1 i)) (fits_right f))
        (at_end cut right d j e);
    all = (let a = total_snoc pass_count cut right in let b = total_set pass_count s.views id v left at in let c = r.all in omega arith);
    drawn = (let a = total_snoc turn_count cut right in let b = total_set turn_count s.views id v left at in let c = r.drawn in omega arith);
    bears = r.bears;
    fixed = r.fixed;
  }

  -- the first pass of a seat at rest goes to a new seat
  deals_goes : (id : ℕ) (v : SeatView) (k : Known E) (ks : List (Known E)) → v.passes ≡ k ∷ ks → v.ticket ≡ None → Splits Rule id v (record v { passes = ks }) (dealer (k ∷ []) v.terms)
  deals_goes id v k ks has un s r at = let new : ℕ = length s.views in let apart : Apart (k ∷ ks) = subst Apart has (r.views id v at).apart in
      forks s r id v (record v { passes = ks }) (dealer (k ∷ []) v.terms) (put r.owner k.number new) at refl (let h = ap length has in omega arith) (let h = ap (total (λ (z : Known E). z.turns)) has in omega arith) (omega arith)
      (λ p j e other. put_else r.owner k.number new p (λ same. other (sym e ∙ (ap r.owner same ∙ ((r.views id v at).passes 0 k (ap (λ z. get_elem? z 0) has)).owned))) ∙ e)
      (λ f. record {
        passes = λ m l e. let p = f.passes (suc m) l (ap (λ z. get_elem? z (suc m)) has ∙ e) in
            record { below = p.below; owned = put_else r.owner k.number new l.number (apart.0 m l e) ∙ p.owned; seen = p.seen; made = p.made; mark = p.mark; drawn = p.drawn };
        apart = apart.1;
        told = f.told;
        told_mark = f.told_mark;
        ticket_is = λ t e. absurd (let c : None ≡ Some t = sym un ∙ e in cc);
        taken_is = f.taken_is;
        terms_is = f.terms_is;
      })
      (λ f. record {
        passes = λ m l e. at_one (PassFits by (log r.core) (mark r.core) r.ticket terms.count (put r.owner k.number new) new) (k ∷ []) k refl
            (let p = f.passes 0 k (ap (λ z. get_elem? z 0) has) in record { below = p.below; owned = put_here r.owner k.number new; seen = p.seen; made = p.made; mark = p.mark; drawn = p.drawn }) m l e;
        apart = ((λ m l e. absurd (some-ne-none l (sym e))), tt);
        told = (log r.core, refl);
        told_mark = omega arith;
        ticket_is = λ t e. absurd cc;
        taken_is = λ x e. absurd cc;
        terms_is = f.terms_is;
      })

  pub dealt_goes : (id : ℕ) (v : SeatView) (k : Known E) (ks : List (Known E)) → v.passes ≡ k ∷ ks → v.ticket ≡ None → Splits Rule id v (dealt v) (dealt_one v)
  dealt_goes id v k ks has un = subst (λ (z : List (Known E) × List (Known E)). Splits Rule id v (record v { passes = z.0 }) (dealer z.1 v.terms))
      (λ i. (ap other_passes (sym has) i, ap first_pass (sym has) i)) (deals_goes id v k ks has un)

  -- a pass gives a note
  pub notes_goes : (id : ℕ) (v : SeatView) (k : Known E) → v.passes ≡ k ∷ [] → Splits Rule id v v (note_of v)
  notes_goes id v k only s r at = forks s r id v v (note_of v) r.owner at refl (omega arith) (omega arith) (omega arith) (λ p j e other. e) (λ f. f)
      (λ f. let p = f.passes 0 k (ap (λ z. get_elem? z 0) only) in let is : k ≡ first_known v.passes = sym (ap first_known only) in record {
        passes = λ m l e. absurd (some-ne-none l (sym e));
        apart = tt;
        told = subst (λ z. StartsWith (log r.core) z.seen) is p.seen;
        told_mark = subst (λ z. z.mark ≤ mark r.core) is p.mark;
        ticket_is = λ t e. absurd cc;
        taken_is = λ x e. absurd cc;
        terms_is = f.terms_is;
      })

  -- two views are joined
  merges : (s : TableState) (r : Rule s) (id other : ℕ) (v w both : SeatView) (owner' : ℕ → ℕ) → get_elem? s.views id ≡ some v → ¬ (other ≡ id) → get_elem? (set s.views id both) other ≡ some w → both.taken ≡ v.taken → w.taken ≡ None
      → pass_count both ≡ pass_count v + pass_count w → turn_count both ≡ turn_count v + turn_count w
      → (Fits r.core r.ticket r.serving r.queue r.owner other w → ticket_count both ≡ ticket_count v + ticket_count w) → ((p j : ℕ) → r.owner p ≡ j → j ≢ id → j ≢ other → owner' p ≡ j)
      → (Fits r.core r.ticket r.serving r.queue r.owner id v → Fits r.core r.ticket r.serving r.queue r.owner other w → Fits r.core r.ticket r.serving r.queue owner' id both)
      → Rule record { words = s.words; homes = s.homes; views = set (set s.views id both) other spent_view }
  merges s r id other v w both owner' at apart at_other same out whole drew held others fits = let at_w : get_elem? s.views other ≡ some w = sym (set_else s.views id other both apart) ∙ at_other in
      let f = r.views id v at in let g = r.views other w at_w in let one : List SeatView = set s.views id both in record {
        core = r.core;
        ticket = r.ticket;
        serving = r.serving;
        queue = r.queue;
        owner = owner';
        words = r.words;
        waiting = (let a = total_set ticket_count s.views id v both at in let b = total_set ticket_count one other w spent_view at_other in let c = r.waiting in let h = held g in omega arith);
        bound = r.bound;
        slot = slot_stays log by mark fix terms r.core (r.queue r.serving) record { words = s.words; homes = s.homes; views = one } s.words other w spent_view at_other (sym out)
            (slot_stays log by mark fix terms r.core (r.queue r.serving) s s.words id v both at same r.slot);
        views = λ j d e. ⊎_elim
            (λ (t : (j ≡ other) × (spent_view ≡ d)). subst (Fits r.core r.ticket r.serving r.queue owner' j) t.1 record {
              passes = λ m l e'. absurd (some-ne-none l (sym e'));
              apart = tt;
              told = (log r.core, refl);
              told_mark = omega arith;
              ticket_is = λ t e'. absurd cc;
              taken_is = λ x e'. absurd cc;
              terms_is = λ x e'. absurd cc;
            })
            (λ (t : (j ≢ other) × (get_elem? one j ≡ some d)). ⊎_elim
            (λ (u : (j ≡ id) × (both ≡ d)). subst (λ (z : ℕ × SeatView). Fits r.core r.ticket r.serving r.queue owner' z.0 z.1) (λ i. (sym u.0 i, u.1 i)) (fits f g))
            (λ (u : (j ≢ id) × (get_elem? s.views j ≡ some d)). later log by mark fix terms r.core r.core r.ticket r.serving r.ticket r.serving r.queue r.owner r.queue owner' j d (starts_here (log r.core)) (le_refl (mark r.core)) (le_refl r.ticket)
            (λ p e'. (others p j e' u.0 t.0, refl)) (λ x a b e'. (a, e')) (λ _ _. (refl, refl)) (r.views j d u.1)) (at_set s.views id j both d t.1))
            (at_set one other j spent_view d e);
        all = (let a = total_set pass_count s.views id v both at in let b = total_set pass_count one other w spent_view at_other in let c = r.all in omega arith);
        drawn = (let a = total_set turn_count s.views id v both at in let b = total_set turn_count one other w spent_view at_other in let c = r.drawn in omega arith);
        bears = r.bears;
        fixed = r.fixed;
      }

  -- a seat is told what a note tells
  pub hears_goes : (id other : ℕ) (v w : SeatView) → w.passes ≡ [] → w.taken ≡ None → Joins Rule id v other w (heard v w) spent_view
  hears_goes id other v w none_there out s r at apart at_other = merges s r id other v w (heard v w) r.owner at apart at_other refl out (let h = ap length none_there in omega arith) (let h = ap (total (λ (z : Known E). z.turns)) none_there in omega arith)
      (λ g. let h = no_ticket w.ticket (λ t e. let one = (g.ticket_is t e).3 in let l = ap length none_there in omega arith) in omega arith) (λ p j e _ _. e)
      (λ f g. record { passes = f.passes; apart = f.apart; told = g.told; told_mark = g.told_mark; ticket_is = f.ticket_is; taken_is = f.taken_is; terms_is = f.terms_is })

  -- a seat takes over another's passes
  pub gathers_goes : (id other : ℕ) (v w : SeatView) → v.ticket ≡ None → w.ticket ≡ None → w.taken ≡ None → Joins Rule id v other w (gathered v w) spent_view
  gathers_goes id other v w un un_too out s r at apart at_other = merges s r id other v w (gathered v w) (moved r.owner id other) at apart at_other refl out (let h = length-append w.passes v.passes in omega arith) (let h = total-append (λ z. z.turns) w.passes v.passes in omega arith)
      (λ g. let h : ticket_count w ≡ 0 = ap tickets un_too in omega arith) (λ p j e _ ne. moved_else r.owner id other p (λ z. ne (sym e ∙ z)) ∙ e)
      (λ f g. record {
        passes = λ m k e. ⊎_elim
            (λ (t : (l : ℕ) × (get_elem? w.passes l ≡ some k)). let p = g.passes t.0 k t.1 in
            record { below = p.below; owned = moved_here r.owner id other k.number p.owned; seen = p.seen; made = p.made; mark = p.mark; drawn = p.drawn })
            (λ (t : (l : ℕ) × (get_elem? v.passes l ≡ some k)). let p = f.passes t.0 k t.1 in
            record { below = p.below; owned = moved_else r.owner id other k.number (λ z. apart (sym z ∙ p.owned)) ∙ p.owned; seen = p.seen; made = p.made; mark = p.mark; drawn = p.drawn })
            (at_both w.passes v.passes m k e);
        apart = apart_both w.passes v.passes g.apart f.apart (λ m n k l e d. λ same. apart (sym ((g.passes m k e).owned) ∙ (ap r.owner (sym same) ∙ (f.passes n l d).owned)));
        told = f.told;
        told_mark = f.told_mark;
        ticket_is = λ t e. absurd (let c : None ≡ Some t = sym un ∙ e in cc);
        taken_is = f.taken_is;
        terms_is = f.terms_is;
      })

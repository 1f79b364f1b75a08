-- What each write to the three lists makes of the slots that they stand for.
use Rattle.std.proofs.Common.{◌≡◌, ℕ, zero, suc, ◌+◌, ◌<◌, ◌≤◌, Bool, true, false, List, [], ◌∷◌, ◌++◌, Option, Some, None, is_some, length, get_or, set, take, drop, refl, sym, ap, subst, ◌∙◌, arith, ◌⊎◌, inl, inr}
use Rattle.std.proofs.lemmas.Bool.{false≢true, cases_lt}
use Rattle.std.proofs.lemmas.List.{set-get_or, get_or-set_same, drop_all, drop_more}
use Rattle.std.specs.List.{filter, AllPairs, AllWithin, HoldsAt}
use Rattle.std.specs.Option.{option_or, option_map, IsSome, IfSome, IfNone}
use Rattle.copyup_core.specs.declared.state.State.{State}
use Rattle.copyup_core.specs.declared.state.State.TheVariants.{Live, Dead, Gone}
use Rattle.copyup_core.specs.Slot.{Slot, IsChanged, IsForgotten, IsFree, WritesAt, had, is_live, live_item, contents_of, SlotsRise}
use Rattle.copyup_core.specs.Parallel.{slot_of, slots_of, kept_at, is_live_state, forgotten}
use Rattle.copyup_core.proofs.Rising.{SlotsRise-strict, contents-dead, dead}

pub element : {A : Type 0} → (xs : List A) (i : ℕ) → i < length xs → A
element [] i lt = absurd (omega arith)
element (x ∷ xs) i lt = x

pub map-some : {A B : Type 0} (f : A → B) (o : Option A) → is_some (option_map f o) ≡ is_some o
map-some f None = refl
map-some f (Some x) = refl

-- a fact of a result follows from two
pub on-some : {A : Type 0} {P Q R : A → Type 0} → ((x : A) → P x → Q x → R x) → (o : Option A) → IfSome o P → IfSome o Q → IfSome o R
on-some f None p q = tt
on-some f (Some x) p q = f x p q

pub on-none : {A : Type 0} {P Q : Type 0} → (P → Q) → (o : Option A) → IfNone o P → IfNone o Q
on-none f None p = f p
on-none f (Some x) p = tt

module _ {V : Type 0} where
  pub length-slots_of : (es : List (ℕ × V)) (ss : List State) (ks : List (Option V)) → length ss ≡ length es → length (slots_of es ss ks) ≡ length es
  length-slots_of [] ss ks h = refl
  length-slots_of (e ∷ es) [] ks h = absurd (omega (arith, h))
  length-slots_of (e ∷ es) (s ∷ ss) [] h = ap suc (length-slots_of es ss [] (omega (arith, h)))
  length-slots_of (e ∷ es) (s ∷ ss) (k ∷ ks) h = ap suc (length-slots_of es ss ks (omega (arith, h)))

  -- a slot is read from the three
  pub get-slots_of : (es : List (ℕ × V)) (ss : List State) (ks : List (Option V)) (i : ℕ) (d : Slot V) (a : ℕ × V) (b : State) → length ss ≡ length es → i < length es → get_or (slots_of es ss ks) i d ≡ slot_of (get_or es i a) (get_or ss i b) (kept_at i ks)
  get-slots_of [] ss ks i d a b h lt = absurd (omega arith)
  get-slots_of (e ∷ es) [] ks i d a b h lt = absurd (omega (arith, h))
  get-slots_of (e ∷ es) (s ∷ ss) [] zero d a b h lt = refl
  get-slots_of (e ∷ es) (s ∷ ss) (k ∷ ks) zero d a b h lt = refl
  get-slots_of (e ∷ es) (s ∷ ss) [] (suc i) d a b h lt = get-slots_of es ss [] i d a b (omega (arith, h)) (omega arith)
  get-slots_of (e ∷ es) (s ∷ ss) (k ∷ ks) (suc i) d a b h lt = get-slots_of es ss ks i d a b (omega (arith, h)) (omega arith)

  -- all three are written at one place
  pub set-slots_of : (es : List (ℕ × V)) (ss : List State) (ks : List (Option V)) (i : ℕ) (a : ℕ × V) (b : State) (k : Option V) → slots_of (set es i a) (set ss i b) (set ks i k) ≡ set (slots_of es ss ks) i (slot_of a b (kept_at i (set ks i k)))
  set-slots_of [] ss ks i a b k = refl
  set-slots_of (e ∷ es) [] ks zero a b k = refl
  set-slots_of (e ∷ es) [] ks (suc i) a b k = refl
  set-slots_of (e ∷ es) (s ∷ ss) [] zero a b k = refl
  set-slots_of (e ∷ es) (s ∷ ss) (x ∷ ks) zero a b k = refl
  set-slots_of (e ∷ es) (s ∷ ss) [] (suc i) a b k = ap (λ t. slot_of e s None ∷ t) (set-slots_of es ss [] i a b k)
  set-slots_of (e ∷ es) (s ∷ ss) (x ∷ ks) (suc i) a b k = ap (λ t. slot_of e s x ∷ t) (set-slots_of es ss ks i a b k)

  -- a state is written
  pub set-state : (es : List (ℕ × V)) (ss : List State) (ks : List (Option V)) (i : ℕ) (a : ℕ × V) (b : State) → slots_of es (set ss i b) ks ≡ set (slots_of es ss ks) i (slot_of (get_or es i a) b (kept_at i ks))
  set-state es ss ks i a b =
      let e = set-get_or es i a in
      let k = set-get_or ks i None in
      ap (λ t. slots_of t (set ss i b) ks) (sym e) ∙ ap (λ t. slots_of (set es i (get_or es i a)) (set ss i b) t) (sym k) ∙ set-slots_of es ss ks i (get_or es i a) b (kept_at i ks) ∙ ap (λ t. set (slots_of es ss ks) i (slot_of (get_or es i a) b (kept_at i t))) k

  -- an entry is written
  pub set-entry : (es : List (ℕ × V)) (ss : List State) (ks : List (Option V)) (i : ℕ) (a : ℕ × V) (b : State) → slots_of (set es i a) ss ks ≡ set (slots_of es ss ks) i (slot_of a (get_or ss i b) (kept_at i ks))
  set-entry es ss ks i a b =
      let s = set-get_or ss i b in
      let k = set-get_or ks i None in
      ap (λ t. slots_of (set es i a) t ks) (sym s) ∙ ap (λ t. slots_of (set es i a) (set ss i (get_or ss i b)) t) (sym k) ∙ set-slots_of es ss ks i a (get_or ss i b) (kept_at i ks) ∙ ap (λ t. set (slots_of es ss ks) i (slot_of a (get_or ss i b) (kept_at i t))) k

  -- an entry is written, and what is kept for it
  pub set-entry-kept : (es : List (ℕ × V)) (ss : List State) (ks : List (Option V)) (i : ℕ) (a : ℕ × V) (b : State) (k : Option V) → i < length ks → slots_of (set es i a) ss (set ks i k) ≡ set (slots_of es ss ks) i (slot_of a (get_or ss i b) k)
  set-entry-kept es ss ks i a b k lt =
      ap (λ t. slots_of (set es i a) t (set ks i k)) (sym (set-get_or ss i b)) ∙ set-slots_of es ss ks i a (get_or ss i b) k ∙ ap (λ t. set (slots_of es ss ks) i (slot_of a (get_or ss i b) t)) (get_or-set_same ks i k None lt)

  kept_at-cleared : (ks : List (Option V)) (i : ℕ) → kept_at i (set ks i None) ≡ None
  kept_at-cleared [] i = refl
  kept_at-cleared (k ∷ ks) zero = refl
  kept_at-cleared (k ∷ ks) (suc i) = kept_at-cleared ks i

  -- a state is written, and nothing is kept there any more
  pub set-state-cleared : (es : List (ℕ × V)) (ss : List State) (ks : List (Option V)) (i : ℕ) (a : ℕ × V) (b : State) → slots_of es (set ss i b) (set ks i None) ≡ set (slots_of es ss ks) i (slot_of (get_or es i a) b None)
  set-state-cleared es ss ks i a b =
      ap (λ t. slots_of t (set ss i b) (set ks i None)) (sym (set-get_or es i a)) ∙ set-slots_of es ss ks i (get_or es i a) b None ∙ ap (λ t. set (slots_of es ss ks) i (slot_of (get_or es i a) b t)) (kept_at-cleared ks i)

  -- the list of what is kept grows by nothing kept
  pub pad-kept : (es : List (ℕ × V)) (ss : List State) (ks : List (Option V)) → slots_of es ss (ks ++ None ∷ []) ≡ slots_of es ss ks
  pad-kept [] ss ks = refl
  pad-kept (e ∷ es) [] ks = refl
  pad-kept (e ∷ es) (s ∷ ss) [] = refl
  pad-kept (e ∷ es) (s ∷ ss) (k ∷ ks) = ap (λ t. slot_of e s k ∷ t) (pad-kept es ss ks)

  -- one more slot at the end
  pub push-slots_of : (es : List (ℕ × V)) (ss : List State) (ks : List (Option V)) (a : ℕ × V) (b : State) → length ss ≡ length es → length ks ≤ length es → slots_of (es ++ a ∷ []) (ss ++ b ∷ []) ks ≡ slots_of es ss ks ++ slot_of a b None ∷ []
  push-slots_of [] [] [] a b h le = refl
  push-slots_of [] [] (k ∷ ks) a b h le = absurd (omega arith)
  push-slots_of [] (s ∷ ss) ks a b h le = absurd (omega (arith, h))
  push-slots_of (e ∷ es) [] ks a b h le = absurd (omega (arith, h))
  push-slots_of (e ∷ es) (s ∷ ss) [] a b h le = ap (λ t. slot_of e s None ∷ t) (push-slots_of es ss [] a b (omega (arith, h)) (omega arith))
  push-slots_of (e ∷ es) (s ∷ ss) (k ∷ ks) a b h le = ap (λ t. slot_of e s k ∷ t) (push-slots_of es ss ks a b (omega (arith, h)) (omega arith))

  -- the slots from a place on are dropped
  pub take-slots_of : (es : List (ℕ × V)) (ss : List State) (n : ℕ) → slots_of (take n es) (take n ss) [] ≡ take n (slots_of es ss [])
  take-slots_of es ss zero = refl
  take-slots_of [] ss (suc n) = refl
  take-slots_of (e ∷ es) [] (suc n) = refl
  take-slots_of (e ∷ es) (s ∷ ss) (suc n) = ap (λ t. slot_of e s None ∷ t) (take-slots_of es ss n)

  slot_of-live : (e : ℕ × V) (s : State) (k : Option V) → is_live (slot_of e s k) ≡ is_live_state s
  slot_of-live e Live k = refl
  slot_of-live e Dead k = refl
  slot_of-live e Gone k = refl

  slot_of-number : (e : ℕ × V) (s : State) (k : Option V) → (slot_of e s k).number ≡ e.0
  slot_of-number e Live k = refl
  slot_of-number e Dead k = refl
  slot_of-number e Gone k = refl

  -- what a slot says of itself is read from one list
  pub number-at : (es : List (ℕ × V)) (ss : List State) (ks : List (Option V)) (i : ℕ) (d : Slot V) (a : ℕ × V) → length ss ≡ length es → i < length es → (get_or (slots_of es ss ks) i d).number ≡ (get_or es i a).0
  number-at es ss ks i d a h lt = ap (λ (s : Slot V). s.number) (get-slots_of es ss ks i d a Live h lt) ∙ slot_of-number (get_or es i a) (get_or ss i Live) (kept_at i ks)

  pub live-at : (es : List (ℕ × V)) (ss : List State) (ks : List (Option V)) (i : ℕ) (d : Slot V) (b : State) → length ss ≡ length es → i < length es → is_live (get_or (slots_of es ss ks) i d) ≡ is_live_state (get_or ss i b)
  live-at [] ss ks i d b h lt = absurd (omega arith)
  live-at (e ∷ es) ss ks i d b h lt = ap is_live (get-slots_of (e ∷ es) ss ks i d e b h lt) ∙ slot_of-live (get_or (e ∷ es) i e) (get_or ss i b) (kept_at i ks)

  -- what is said of the numbers of entries is said of those of slots
  pub numbers-within : (P : ℕ → Type 0) (es : List (ℕ × V)) (ss : List State) (ks : List (Option V)) (low high : ℕ) → length ss ≡ length es → high ≤ length es → AllWithin (λ (e : ℕ × V). P e.0) es low high → AllWithin (λ (s : Slot V). P s.number) (slots_of es ss ks) low high
  numbers-within P es ss ks low high h le p = λ i d lo hi. let a = element es i (omega arith) in subst P (sym (number-at es ss ks i d a h (omega arith))) (p i a lo hi)

  pub numbers-rise : (low high : ℕ) (es : List (ℕ × V)) (ss : List State) (ks : List (Option V)) → length ss ≡ length es → SlotsRise low high (slots_of es ss ks) → (i j : ℕ) (d : ℕ × V) → i < j → j < length es → (get_or es i d).0 < (get_or es j d).0
  numbers-rise low high es ss ks h r i j d lt le =
      let s = slot_of d Dead None in
      let n = length-slots_of es ss ks h in
      let a = number-at es ss ks i s d h (omega arith) in
      let b = number-at es ss ks j s d h le in
      let c = SlotsRise-strict low high (slots_of es ss ks) r i j s lt (omega (arith, n)) in
      omega (arith, a, b, c)

  pub in-lists : (es : List (ℕ × V)) (ss : List State) (ks : List (Option V)) (i : ℕ) → length ss ≡ length es → i < length (slots_of es ss ks) → (i < length es) × (i < length ss)
  in-lists es ss ks i h lt = let n = length-slots_of es ss ks h in (omega (arith, n), omega (arith, n, h))

  -- the slot at a place where there is an item
  pub live-slot : (es : List (ℕ × V)) (ss : List State) (ks : List (Option V)) (i : ℕ) (d : Slot V) (a : ℕ × V) → length ss ≡ length es → i < length es → IsSome (get_or (slots_of es ss ks) i d).live → (get_or (slots_of es ss ks) i d ≡ slot_of (get_or es i a) Live (kept_at i ks)) × (get_or ss i Live ≡ Live)
  live-slot es ss ks i d a h lt live =
      let e = get-slots_of es ss ks i d a Live h lt in
      let s = live-state (get_or es i a) (get_or ss i Live) (kept_at i ks) (subst (λ (t : Slot V). IsSome t.live) e live) in
      (e ∙ ap (λ t. slot_of (get_or es i a) t (kept_at i ks)) s, s)
    where
      live-state : (e : ℕ × V) (s : State) (k : Option V) → IsSome (slot_of e s k).live → s ≡ Live
      live-state e Live k l = refl
      live-state e Dead k l = absurd (false≢true l)
      live-state e Gone k l = absurd (false≢true l)

  pub item-at : (es : List (ℕ × V)) (ss : List State) (ks : List (Option V)) (i : ℕ) (d : Slot V) (a : ℕ × V) → length ss ≡ length es → i < length es → IsSome (get_or (slots_of es ss ks) i d).live → (get_or (slots_of es ss ks) i d).live ≡ Some (get_or es i a).1
  item-at es ss ks i d a h lt live = ap (λ (t : Slot V). t.live) (live-slot es ss ks i d a h lt live).0

  -- the item of a live slot is taken out
  pub removed-at : (es : List (ℕ × V)) (ss : List State) (ks : List (Option V)) (i : ℕ) (wanted : Bool) (t : State) → length ss ≡ length es → i < length es → HoldsAt (λ (s : Slot V). IsSome s.live) (slots_of es ss ks) i → ((e : ℕ × V) → IsChanged None wanted (slot_of e Live (kept_at i ks)) (slot_of e t (kept_at i ks))) → WritesAt (IsChanged None wanted) i (slots_of es ss ks) (slots_of es (set ss i t) ks)
  removed-at es ss ks i wanted t h lt live c =
      let a = element es i lt in
      let y = slot_of (get_or es i a) t (kept_at i ks) in
      record {
        slot = y;
        items = set-state es ss ks i a t;
        changed = subst (λ (x : Slot V). IsChanged None wanted x y) (sym (live-slot es ss ks i y a h lt (live y)).0) (c (get_or es i a));
      }

  -- the item of a live slot is replaced, and the capture does not want it, or has what it wants
  pub replaced-at : (es : List (ℕ × V)) (ss : List State) (ks : List (Option V)) (i : ℕ) (a : ℕ × V) (wanted : Bool) → length ss ≡ length es → i < length es → HoldsAt (λ (s : Slot V). IsSome s.live) (slots_of es ss ks) i → a.0 ≡ (get_or es i a).0 → (wanted ≡ true → is_some (kept_at i ks) ≡ true) → WritesAt (IsChanged (Some a.1) wanted) i (slots_of es ss ks) (slots_of (set es i a) ss ks)
  replaced-at es ss ks i a wanted h lt live q k =
      let y = slot_of a Live (kept_at i ks) in
      let l = live-slot es ss ks i y a h lt (live y) in
      record {
        slot = y;
        items = set-entry es ss ks i a Live ∙ ap (λ t. set (slots_of es ss ks) i (slot_of a t (kept_at i ks))) l.1;
        changed = subst (λ (x : Slot V). IsChanged (Some a.1) wanted x y) (sym l.0) (record { number = q; live = refl; captured = λ w. either (kept_at i ks) (k w) (Some a.1) (Some (get_or es i a).1); untouched = λ w. refl });
      }
    where
      either : (k : Option V) → is_some k ≡ true → (o p : Option V) → option_or k o ≡ option_or k p
      either None h o p = absurd (false≢true h)
      either (Some v) h o p = refl

  -- the item of a live slot is replaced, and put by
  pub put-by-at : (es : List (ℕ × V)) (ss : List State) (ks more : List (Option V)) (i : ℕ) (a : ℕ × V) (old : V) (wanted : Bool) → length ss ≡ length es → i < length es → HoldsAt (λ (s : Slot V). IsSome s.live) (slots_of es ss ks) i → a.0 ≡ (get_or es i a).0 → old ≡ (get_or es i a).1 → wanted ≡ true → is_some (kept_at i ks) ≡ false → slots_of es ss more ≡ slots_of es ss ks → i < length more → WritesAt (IsChanged (Some a.1) wanted) i (slots_of es ss ks) (slots_of (set es i a) ss (set more i (Some old)))
  put-by-at es ss ks more i a old wanted h lt live q v w n m lm =
      let y = slot_of a Live (Some old) in
      let l = live-slot es ss ks i y a h lt (live y) in
      record {
        slot = y;
        items = set-entry-kept es ss more i a Live (Some old) lm ∙ ap (λ t. set t i (slot_of a (get_or ss i Live) (Some old))) m ∙ ap (λ t. set (slots_of es ss ks) i (slot_of a t (Some old))) l.1;
        changed = subst (λ (x : Slot V). IsChanged (Some a.1) wanted x y) (sym l.0) (record { number = q; live = refl; captured = λ _. ap (λ t. Some t) v ∙ sym (ap (λ k. option_or k (Some (get_or es i a).1)) (dead (kept_at i ks) n)); untouched = λ u. absurd (false≢true (sym u ∙ w)) });
      }

  -- a capture wants nothing of a slot any more
  pub forgotten-at : (es : List (ℕ × V)) (ss : List State) (ks : List (Option V)) (i : ℕ) (b : State) → length ss ≡ length es → i < length es → WritesAt IsForgotten i (slots_of es ss ks) (slots_of es (set ss i (forgotten (get_or ss i b))) (set ks i None))
  forgotten-at es ss ks i b h lt =
      let a = element es i lt in
      let s = get_or ss i b in
      let y = slot_of (get_or es i a) (forgotten s) None in
      record {
        slot = y;
        items = set-state-cleared es ss ks i a (forgotten s);
        changed = subst (λ (x : Slot V). IsForgotten x y) (sym (get-slots_of es ss ks i y a b h lt)) (at (get_or es i a) s (kept_at i ks));
      }
    where
      at : (e : ℕ × V) (s : State) (k : Option V) → IsForgotten (slot_of e s k) (slot_of e (forgotten s) None)
      at e Live k = record { number = refl; live = refl; free = refl }
      at e Dead k = record { number = refl; live = refl; free = refl }
      at e Gone k = record { number = refl; live = refl; free = refl }

  -- what a slot had: what is kept, or else its value unless it is dead
  pub had-kept : (e : ℕ × V) (s : State) (k : Option V) (v : V) → k ≡ Some v → had (slot_of e s k) ≡ Some v
  had-kept e Live k v q = rw q refl
  had-kept e Dead k v q = rw q refl
  had-kept e Gone k v q = rw q refl

  pub had-dead : (e : ℕ × V) (s : State) (k : Option V) → k ≡ None → s ≡ Dead → had (slot_of e s k) ≡ None
  had-dead e s k q d = rw (q, d) refl

  pub had-value : (e : ℕ × V) (s : State) (k : Option V) → k ≡ None → (s ≡ Live) ⊎ (s ≡ Gone) → had (slot_of e s k) ≡ Some e.1
  had-value e s k q (inl d) = rw (q, d) refl
  had-value e s k q (inr d) = rw (q, d) refl

  -- the contents do not depend on what is kept
  pub contents-unkept : (es : List (ℕ × V)) (ss : List State) (ks : List (Option V)) → contents_of (slots_of es ss ks) ≡ contents_of (slots_of es ss [])
  contents-unkept [] ss ks = refl
  contents-unkept (e ∷ es) [] ks = refl
  contents-unkept (e ∷ es) (s ∷ ss) [] = refl
  contents-unkept (e ∷ es) (s ∷ ss) (k ∷ ks) = ap (λ t. t ++ contents_of (slots_of es ss ks)) (at s) ∙ ap (λ t. live_item (slot_of e s None) ++ t) (contents-unkept es ss ks)
    where
      at : (s : State) → live_item (slot_of e s k) ≡ live_item (slot_of e s None)
      at Live = refl
      at Dead = refl
      at Gone = refl

  pub rises-unkept : (low high : ℕ) (es : List (ℕ × V)) (ss : List State) (ks : List (Option V)) → SlotsRise low high (slots_of es ss ks) → SlotsRise low high (slots_of es ss [])
  rises-unkept low high [] ss ks r = r
  rises-unkept low high (e ∷ es) [] ks r = r
  rises-unkept low high (e ∷ es) (s ∷ ss) [] r = r
  rises-unkept low high (e ∷ es) (s ∷ ss) (k ∷ ks) r =
      let q = slot_of-number e s k in
      let p = slot_of-number e s None in
      let f = r.0 in
      (omega (arith, p, q, f), rw (p ∙ sym q) (rises-unkept ((slot_of e s k).number + 1) high es ss ks r.1))

  -- slots whose states are not live have no item
  pub dead-states : (es : List (ℕ × V)) (ss : List State) (ks : List (Option V)) (from to : ℕ) → length ss ≡ length es → from ≤ to → to ≤ length es → AllWithin (λ s. is_live_state s ≡ false) ss from to → contents_of (drop from (slots_of es ss ks)) ≡ contents_of (drop to (slots_of es ss ks))
  dead-states es ss ks from to h le lt d =
      let n = length-slots_of es ss ks h in
      contents-dead (slots_of es ss ks) from to le (omega (arith, n)) (λ k s lo hi. live-at es ss ks k s Live h (omega arith) ∙ d k Live lo hi)

  pub no-more : (xs : List (Slot V)) (n : ℕ) → length xs ≤ n → contents_of (drop n xs) ≡ []
  no-more xs n le = ap contents_of (drop_all n xs le)

  -- the item of a live slot is first from its place on
  pub first-live : (es : List (ℕ × V)) (ss : List State) (ks : List (Option V)) (i : ℕ) (a : ℕ × V) → length ss ≡ length es → i < length es → is_live_state (get_or ss i Live) ≡ true → contents_of (drop i (slots_of es ss ks)) ≡ ((get_or es i a).0, (get_or es i a).1) ∷ contents_of (drop (i + 1) (slots_of es ss ks))
  first-live es ss ks i a h lt live =
      let xs = slots_of es ss ks in
      let d = slot_of a Live None in
      let n = length-slots_of es ss ks h in
      ap contents_of (drop_more xs i d (omega (arith, n))) ∙ ap (λ (s : Slot V). live_item s ++ contents_of (drop (i + 1) xs)) (get-slots_of es ss ks i d a Live h lt) ∙ ap (λ t. t ++ contents_of (drop (i + 1) xs)) (at (get_or ss i Live) live)
    where
      at : (s : State) → is_live_state s ≡ true → live_item (slot_of (get_or es i a) s (kept_at i ks)) ≡ ((get_or es i a).0, (get_or es i a).1) ∷ []
      at Live q = refl
      at Dead q = absurd (false≢true q)
      at Gone q = absurd (false≢true q)

  -- all kept is let go of with what is live
  pub free-alone : (es : List (ℕ × V)) (ss : List State) (i : ℕ) (d : Slot V) → i < length (filter is_live (slots_of es ss [])) → IsFree (get_or (filter is_live (slots_of es ss [])) i d)
  free-alone [] ss i d lt = absurd (omega arith)
  free-alone (e ∷ es) [] i d lt = absurd (omega arith)
  free-alone (e ∷ es) (Live ∷ ss) zero d lt = refl
  free-alone (e ∷ es) (Live ∷ ss) (suc i) d lt = free-alone es ss i d (omega arith)
  free-alone (e ∷ es) (Dead ∷ ss) i d lt = free-alone es ss i d lt
  free-alone (e ∷ es) (Gone ∷ ss) i d lt = free-alone es ss i d lt

  -- numbers that rise do not fall
  pub in-order : (es : List (ℕ × V)) → AllPairs (λ (e f : ℕ × V). e.0 < f.0) es → (i j : ℕ) (d : ℕ × V) → i ≤ j → j < length es → (get_or es i d).0 ≤ (get_or es j d).0
  in-order es h i j d le lt = at (cases_lt i j)
    where
      at : (i < j) ⊎ (j ≤ i) → (get_or es i d).0 ≤ (get_or es j d).0
      at (inl l) = let r = h i j d l lt in omega arith
      at (inr l) = let q : i ≡ j = omega arith in rw q (omega arith)

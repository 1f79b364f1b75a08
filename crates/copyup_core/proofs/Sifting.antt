-- What is left of the contents after a sieve.
use Rattle.std.proofs.Common.{◌≡◌, ℕ, zero, suc, ◌+◌, ◌-◌, ◌<◌, ◌≤◌, Bool, true, false, ◌&&◌, not, cond, List, [], ◌∷◌, ◌++◌, Option, None, length, length-set, refl, subst, get_or, set, take, drop, sym, ap, ◌∙◌, arith, length-append, append-nil}
use Rattle.std.specs.List.{filter}
use Rattle.std.proofs.lemmas.List.{set-get_or, get_or_read, get_or_default, take_all, take_more, take_more_set, drop_more, drop-set-lt}
use Rattle.std.proofs.lemmas.List.Concat.{flat_map-append}
use Rattle.std.proofs.lemmas.List.Elements.{filter-append}
use Rattle.copyup_core.specs.declared.window.Window.{Window}
use Rattle.copyup_core.specs.Slot.{Slot, IsChanged, had, live_item, contents_of}
use Rattle.copyup_core.specs.Parallel.{slot_of, slots_of, kept_at, is_live_state}
use Rattle.copyup_core.specs.declared.state.State.{State}
use Rattle.copyup_core.specs.declared.state.State.TheVariants.{Live, Dead, Gone}
use Rattle.std.proofs.lemmas.Bool.{false≢true}
use Rattle.copyup_core.specs.Sound.{IsSoundStore, IsSifted, rest_of}
use Rattle.copyup_core.specs.Window.{is_wanted_at}
use Rattle.copyup_core.proofs.Parallel.{length-slots_of, get-slots_of, set-state}
use Rattle.copyup_core.proofs.Soundness.{sound-set, rest-set}

module _ {V : Type 0} (P : ℕ × V → Bool) where
  -- one more slot was sifted
  pub sifted-more : (old now : List (Slot V)) (i : ℕ) (x y : Slot V) → i < length old → i < length now → x ≡ get_or now i x → drop i now ≡ drop i old → contents_of (take i now) ≡ filter P (contents_of (take i old)) → live_item y ≡ filter P (live_item x) → contents_of (take (i + 1) (set now i y)) ≡ filter P (contents_of (take (i + 1) old))
  sifted-more old now i x y lo ln is d c e =
      let same : get_or old i x ≡ x = ap (λ (l : List (Slot V)). get_or l 0 x) (sym (drop_more old i x lo) ∙ sym d ∙ drop_more now i x ln) ∙ sym is in
      let left = ap contents_of (take_more_set now i y ln) ∙ flat_map-append live_item (take i now) (y ∷ []) ∙ ap (λ t. contents_of (take i now) ++ t) (append-nil (live_item y)) in
      let right = ap contents_of (take_more old i x lo) ∙ flat_map-append live_item (take i old) (get_or old i x ∷ []) ∙ ap (λ t. contents_of (take i old) ++ t) (append-nil (live_item (get_or old i x)) ∙ ap live_item same) in
      left ∙ ap (λ t. t ++ live_item y) c ∙ ap (λ t. filter P (contents_of (take i old)) ++ t) e ∙ sym (ap (filter P) right ∙ filter-append P (contents_of (take i old)) (live_item x))

module _ {V : Type 0} where
  -- the slots behind it are as they were
  pub behind-more : (old now : List (Slot V)) (i : ℕ) (x y : Slot V) → i < length old → i < length now → drop i now ≡ drop i old → drop (i + 1) (set now i y) ≡ drop (i + 1) old
  behind-more old now i x y lo ln d = drop-set-lt (i + 1) now i y (omega arith) ∙ tails (drop (i + 1) now) (drop (i + 1) old) (get_or now i x) (get_or old i x) (sym (drop_more now i x ln) ∙ d ∙ drop_more old i x lo)
    where
      tails : (a b : List (Slot V)) (s t : Slot V) → s ∷ a ≡ t ∷ b → a ≡ b
      tails a b s t e = ap (λ (l : List (Slot V)). drop 1 l) e

  -- how many items there are after a write
  pub count-set : (xs : List (Slot V)) (i b : ℕ) (y : Slot V) → i < length xs → length (live_item y) + b ≡ length (live_item (get_or xs i y)) → length (contents_of (set xs i y)) + b ≡ length (contents_of xs)
  count-set [] i b y lt e = absurd (omega arith)
  count-set (x ∷ xs) zero b y lt e =
      let p = length-append (live_item y) (contents_of xs) in
      let q = length-append (live_item x) (contents_of xs) in
      omega arith
  count-set (x ∷ xs) (suc i) b y lt e =
      let p = length-append (live_item x) (contents_of (set xs i y)) in
      let q = length-append (live_item x) (contents_of xs) in
      let r = count-set xs i b y (omega arith) e in
      omega arith

  -- the store stays sound, and what a capture has to give stays
  pub sound-sifted : (xs : List (Slot V)) (next len b : ℕ) (capture : Option Window) (i : ℕ) (x y : Slot V) (keeps : Bool) → i < length xs → x ≡ get_or xs i x → y.number ≡ x.number → length (live_item y) + b ≡ length (live_item x) → keeps ≡ is_wanted_at i capture → (keeps ≡ true → had y ≡ had x) → (keeps ≡ false → y.kept ≡ x.kept) → IsSoundStore xs next len capture → IsSoundStore (set xs i y) next (len - b) capture
  sound-sifted xs next len b capture i x y keeps lt is q n k h o s =
      let e = get_or_read xs i x lt is y in
      let c = count-set xs i b y lt (n ∙ ap (λ (t : Slot V). length (live_item t)) e) in
      let d = s.counted in
      sound-set xs next len (len - b) capture i y s lt (q ∙ ap (λ (t : Slot V). t.number) e) (omega arith) (λ w. h (k ∙ w) ∙ ap had e) (λ w. o (k ∙ w) ∙ ap (λ (t : Slot V). t.kept) e)

  pub rest-sifted : (xs : List (Slot V)) (capture : Option Window) (i : ℕ) (x y : Slot V) (keeps : Bool) → i < length xs → x ≡ get_or xs i x → y.number ≡ x.number → keeps ≡ is_wanted_at i capture → (keeps ≡ true → had y ≡ had x) → rest_of (set xs i y) capture ≡ rest_of xs capture
  rest-sifted xs capture i x y keeps lt is q k h =
      let e = get_or_read xs i x lt is y in
      rest-set xs capture i y (q ∙ ap (λ (t : Slot V). t.number) e) (λ w. h (k ∙ w) ∙ ap had e)

-- the slots before a place are sifted, and those behind it are as they were
pub record IsSiftedTo {V : Type 0} (keeps : V → Bool) (capture : Option Window) (place dropped : ℕ) (old now : List (Slot V)) : Type 0 where
  pub long : length now ≡ length old
  pub few : dropped ≤ place
  pub before : contents_of (take place now) ≡ filter (λ e. keeps e.1) (contents_of (take place old))
  pub behind : drop place now ≡ drop place old
  pub count : length (contents_of now) + dropped ≡ length (contents_of old)
  pub rest : rest_of now capture ≡ rest_of old capture
  pub sound : (next len : ℕ) → IsSoundStore old next len capture → IsSoundStore now next (len - dropped) capture

-- what a slot becomes under a sieve: `dropped` says whether its item is taken out
pub record IsSiftedSlot {V : Type 0} (keeps : V → Bool) (wanted : Bool) (dropped : ℕ) (old new : Slot V) : Type 0 where
  pub number : new.number ≡ old.number
  pub few : dropped ≤ 1
  pub item : live_item new ≡ filter (λ e. keeps e.1) (live_item old)
  pub count : length (live_item new) + dropped ≡ length (live_item old)
  pub captured : wanted ≡ true → had new ≡ had old
  pub untouched : wanted ≡ false → new.kept ≡ old.kept

module _ {V : Type 0} (keeps : V → Bool) (capture : Option Window) where
  pub sifted-step : (old now : List (Slot V)) (i dropped b : ℕ) (y : Slot V) → IsSiftedTo keeps capture i dropped old now → i < length old → IsSiftedSlot keeps (is_wanted_at i capture) b (get_or now i y) y → IsSiftedTo keeps capture (i + 1) (dropped + b) old (set now i y)
  sifted-step old now i dropped b y k lo e =
      let x = get_or now i y in
      let ln : i < length now = omega (arith, k.long) in
      let is : x ≡ get_or now i x = get_or_default now i y x ln in
      let fewer = count-set now i b y ln e.count in
      record {
        long = length-set now i y ∙ k.long;
        few = let f = k.few in let h = e.few in omega arith;
        before = sifted-more (λ n. keeps n.1) old now i x y lo ln is k.behind k.before e.item;
        behind = behind-more old now i x y lo ln k.behind;
        count = let h = k.count in omega (arith, fewer);
        rest = rest-sifted now capture i x y (is_wanted_at i capture) ln is e.number refl e.captured ∙ k.rest;
        sound = λ next len s.
            let one = sound-sifted now next (len - dropped) b capture i x y (is_wanted_at i capture) ln is e.number e.count refl e.captured e.untouched (k.sound next len s) in
            let same : len - dropped - b ≡ len - (dropped + b) = omega arith in
            subst (λ n. IsSoundStore (set now i y) next n capture) same one;
      }

  pub sifted-all : (old now : List (Slot V)) (i dropped : ℕ) → IsSiftedTo keeps capture i dropped old now → length old ≤ i → IsSifted keeps capture old now dropped
  sifted-all old now i dropped k le = record {
    contents = ap contents_of (sym (take_all i now (omega (arith, k.long)))) ∙ k.before ∙ ap (λ t. filter (λ e. keeps e.1) (contents_of t)) (take_all i old le);
    count = k.count;
    rest = k.rest;
    sound = k.sound;
  }

  -- a slot that the sieve keeps, and one with no item
  pub sifted-kept : (wanted : Bool) (e : ℕ × V) (s : State) (k : Option V) → (is_live_state s && not (keeps e.1)) ≡ false → IsSiftedSlot keeps wanted 0 (slot_of e s k) (slot_of e s k)
  sifted-kept wanted e s k h = record {
    number = refl;
    few = omega arith;
    item = at s h;
    count = omega arith;
    captured = λ _. refl;
    untouched = λ _. refl;
  }
    where
      stays : (b : Bool) → not b ≡ false → (e ∷ []) ≡ cond b (e ∷ []) []
      stays true q = refl
      stays false q = absurd (false≢true (sym q))

      at : (s : State) → (is_live_state s && not (keeps e.1)) ≡ false → live_item (slot_of e s k) ≡ filter (λ e. keeps e.1) (live_item (slot_of e s k))
      at Live q = stays (keeps e.1) q
      at Dead q = refl
      at Gone q = refl

  -- a slot whose item is taken out
  pub sifted-out : (wanted : Bool) (e : ℕ × V) (s t : State) (k : Option V) → (is_live_state s && not (keeps e.1)) ≡ true → IsChanged None wanted (slot_of e Live k) (slot_of e t k) → IsSiftedSlot keeps wanted 1 (slot_of e s k) (slot_of e t k)
  sifted-out wanted e Dead t k h c = absurd (false≢true h)
  sifted-out wanted e Gone t k h c = absurd (false≢true h)
  sifted-out wanted e Live t k h c = record {
    number = c.number;
    few = omega arith;
    item = rw c.live (goes (keeps e.1) h);
    count = rw c.live refl;
    captured = c.captured;
    untouched = c.untouched;
  }
    where
      goes : (b : Bool) → not b ≡ true → [] ≡ cond b (e ∷ []) []
      goes true q = absurd (false≢true q)
      goes false q = refl

  -- one turn of the walk
  pub turn-out : (old : List (Slot V)) (es : List (ℕ × V)) (ss : List State) (ks : List (Option V)) (i dropped : ℕ) (a : ℕ × V) (t : State) → length ss ≡ length es → i < length old → IsSiftedTo keeps capture i dropped old (slots_of es ss ks) → (is_live_state (get_or ss i Live) && not (keeps (get_or es i a).1)) ≡ true → ((e : ℕ × V) → IsChanged None (is_wanted_at i capture) (slot_of e Live (kept_at i ks)) (slot_of e t (kept_at i ks))) → IsSiftedTo keeps capture (i + 1) (dropped + 1) old (slots_of es (set ss i t) ks)
  turn-out old es ss ks i dropped a t h lo k out c =
      let e = get_or es i a in
      let y = slot_of e t (kept_at i ks) in
      let n = length-slots_of es ss ks h in
      let x = get-slots_of es ss ks i y a Live h (omega (arith, n, k.long)) in
      rw (set-state es ss ks i a t) (sifted-step old (slots_of es ss ks) i dropped 1 y k lo (subst (λ z. IsSiftedSlot keeps (is_wanted_at i capture) 1 z y) (sym x) (sifted-out (is_wanted_at i capture) e (get_or ss i Live) t (kept_at i ks) out (c e))))

  pub turn-kept : (old : List (Slot V)) (es : List (ℕ × V)) (ss : List State) (ks : List (Option V)) (i dropped : ℕ) (a : ℕ × V) → length ss ≡ length es → i < length old → IsSiftedTo keeps capture i dropped old (slots_of es ss ks) → (is_live_state (get_or ss i Live) && not (keeps (get_or es i a).1)) ≡ false → IsSiftedTo keeps capture (i + 1) dropped old (slots_of es ss ks)
  turn-kept old es ss ks i dropped a h lo k stays =
      let s = get_or ss i Live in
      let y = slot_of (get_or es i a) s (kept_at i ks) in
      let xs = slots_of es ss ks in
      let n = length-slots_of es ss ks h in
      let x = get-slots_of es ss ks i y a Live h (omega (arith, n, k.long)) in
      let one = sifted-step old xs i dropped 0 y k lo (subst (λ z. IsSiftedSlot keeps (is_wanted_at i capture) 0 z y) (sym x) (sifted-kept (is_wanted_at i capture) (get_or es i a) s (kept_at i ks) stays)) in
      let none : dropped + 0 ≡ dropped = omega arith in
      let same : set xs i y ≡ xs = ap (λ t. set xs i t) (sym x) ∙ set-get_or xs i y in
      subst (λ t. IsSiftedTo keeps capture (i + 1) dropped old t) same (subst (λ m. IsSiftedTo keeps capture (i + 1) m old (set xs i y)) none one)

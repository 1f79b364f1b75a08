-- Live slots are moved to the front.
use Rattle.std.proofs.Common.{◌≡◌, ℕ, zero, suc, ◌+◌, ◌<◌, ◌≤◌, true, false, List, [], ◌∷◌, ◌++◌, None, length, get_or, set, take, drop, refl, sym, ap, ◌∙◌, arith, append-nil, length-set, ◌⊎◌, inl, inr}
use Rattle.std.specs.List.{filter}
use Rattle.std.proofs.lemmas.List.{set-set, take_all, take_at, take-set-le, take_more, take_more_set, drop_more, drop-set-lt}
use Rattle.std.proofs.lemmas.List.Elements.{filter-append}
use Rattle.std.proofs.lemmas.Bool.{cases_lt, false≢true}
use Rattle.copyup_core.specs.declared.state.State.{State}
use Rattle.copyup_core.specs.declared.state.State.TheVariants.{Live, Dead, Gone}
use Rattle.copyup_core.specs.Slot.{Slot, is_live}
use Rattle.copyup_core.specs.Parallel.{slot_of, slots_of, is_live_state}
use Rattle.copyup_core.proofs.Parallel.{length-slots_of, get-slots_of, set-slots_of, set-entry, take-slots_of}

-- the live slots before a place stand in front, and those behind it are as they were
pub record IsGatheredTo {V : Type 0} (place to : ℕ) (old now : List (Slot V)) : Type 0 where
  pub few : to ≤ place
  pub long : length now ≡ length old
  pub before : take to now ≡ filter is_live (take place old)
  pub behind : drop place now ≡ drop place old

module _ {V : Type 0} where
  tails : (a b : List (Slot V)) (s t : Slot V) → s ∷ a ≡ t ∷ b → a ≡ b
  tails a b s t e = ap (λ (l : List (Slot V)). drop 1 l) e

  heads : (a b : List (Slot V)) (s t d : Slot V) → s ∷ a ≡ t ∷ b → s ≡ t
  heads a b s t d e = ap (λ (l : List (Slot V)). get_or l 0 d) e

  filter-live : (x : Slot V) → is_live x ≡ true → filter is_live (x ∷ []) ≡ x ∷ []
  filter-live x h = rw h refl

  filter-dead : (x : Slot V) → is_live x ≡ false → filter is_live (x ∷ []) ≡ []
  filter-dead x h = rw h refl

  filter-more : (old : List (Slot V)) (i : ℕ) (d : Slot V) → i < length old → filter is_live (take (i + 1) old) ≡ filter is_live (take i old) ++ filter is_live (get_or old i d ∷ [])
  filter-more old i d lt = ap (filter is_live) (take_more old i d lt) ∙ filter-append is_live (take i old) (get_or old i d ∷ [])

  module _ (old now : List (Slot V)) (i to : ℕ) (d : Slot V) (k : IsGatheredTo i to old now) (lo : i < length old) where
    ln : i < length now
    ln = omega (arith, k.long)

    parts : get_or now i d ∷ drop (i + 1) now ≡ get_or old i d ∷ drop (i + 1) old
    parts = sym (drop_more now i d ln) ∙ k.behind ∙ drop_more old i d lo

    -- a slot that is not live stays where it is
    pub gathered-dead : is_live (get_or now i d) ≡ false → IsGatheredTo (i + 1) to old now
    gathered-dead h = record {
      few = let f = k.few in omega arith;
      long = k.long;
      before = k.before ∙ sym (append-nil (filter is_live (take i old))) ∙ ap (λ t. filter is_live (take i old) ++ t) (sym (filter-dead (get_or old i d) (ap is_live (sym (heads _ _ _ _ d parts)) ∙ h))) ∙ sym (filter-more old i d lo);
      behind = tails _ _ _ _ parts;
    }

    -- a live one moves behind the others
    pub gathered-live : (x z : Slot V) → x ≡ get_or now i d → (to ≡ i → z ≡ x) → is_live x ≡ true → IsGatheredTo (i + 1) (to + 1) old (set (set now to x) i z)
    gathered-live x z is same h =
        let few = k.few in
        record {
          few = omega arith;
          long = length-set (set now to x) i z ∙ length-set now to x ∙ k.long;
          before = at (cases_lt to i) ∙ ap (λ t. t ++ x ∷ []) k.before ∙ ap (λ t. filter is_live (take i old) ++ t) (sym (filter-live x h) ∙ ap (λ t. filter is_live (t ∷ [])) (is ∙ heads _ _ _ _ d parts)) ∙ sym (filter-more old i d lo);
          behind = drop-set-lt (i + 1) (set now to x) i z (omega arith) ∙ drop-set-lt (i + 1) now to x (omega arith) ∙ tails _ _ _ _ parts;
        }
      where
        at : (to < i) ⊎ (i ≤ to) → take (to + 1) (set (set now to x) i z) ≡ take to now ++ x ∷ []
        at (inl l) = let f = k.few in take-set-le (to + 1) (set now to x) i z (omega arith) ∙ take_more_set now to x (omega (arith, ln))
        at (inr l) =
            let f = k.few in
            let q : to ≡ i = omega arith in
            ap (λ t. take (to + 1) (set (set now to x) t z)) (sym q) ∙ ap (λ t. take (to + 1) t) (set-set now to x z) ∙ ap (λ t. take (to + 1) (set now to t)) (same q) ∙ take_more_set now to x (omega (arith, ln))

  pub gathered-all : (old now : List (Slot V)) (i to : ℕ) → IsGatheredTo i to old now → length old ≤ i → take to now ≡ filter is_live old
  gathered-all old now i to k le = k.before ∙ ap (filter is_live) (take_all i old le)

  -- what swapping two entries and writing one state makes of the slots
  pub swapped : (es : List (ℕ × V)) (ss : List State) (i to : ℕ) (a b : ℕ × V) (s : State) → slots_of (set (set es to a) i b) (set ss to Live) [] ≡ set (set (slots_of es ss []) to (slot_of a Live None)) i (slot_of b (get_or (set ss to Live) i s) None)
  swapped es ss i to a b s = set-entry (set es to a) (set ss to Live) [] i b s ∙ ap (λ t. set t i (slot_of b (get_or (set ss to Live) i s) None)) (set-slots_of es ss [] to a Live None)

  -- one turn of the walk: the entry of a live slot is swapped to the front
  pub gathered-swapped : (old : List (Slot V)) (es fs : List (ℕ × V)) (ss : List State) (i to : ℕ) (a : ℕ × V) → length ss ≡ length es → i < length old → IsGatheredTo i to old (slots_of es ss []) → a ≡ get_or es i a → is_live_state (get_or ss i Live) ≡ true → fs ≡ set (set es to (get_or es i a)) i (get_or es to a) → IsGatheredTo (i + 1) (to + 1) old (slots_of fs (set ss to Live) [])
  gathered-swapped old es fs ss i to a h lo k is live f =
      let b = get_or es to a in
      let t = get_or (set ss to Live) i Live in
      let x = slot_of a Live None in
      let z = slot_of b t None in
      let n = length-slots_of es ss [] h in
      let ln : i < length es = omega (arith, n, k.long) in
      let s = live-is (get_or ss i Live) live in
      let same : get_or (slots_of es ss []) i x ≡ x = get-slots_of es ss [] i x a Live h ln ∙ ap (λ u. slot_of (get_or es i a) u None) s ∙ ap (λ e. slot_of e Live None) (sym is) in
      let e : fs ≡ set (set es to a) i b = f ∙ ap (λ u. set (set es to u) i b) (sym is) in
      rw (e, swapped es ss i to a b Live) (gathered-live old (slots_of es ss []) i to x k lo x z (sym same) (λ q. ap (λ u. slot_of u t None) (ap (λ j. get_or es j a) q ∙ sym is) ∙ ap (λ u. slot_of a u None) (stays q)) refl)
    where
      live-is : (s : State) → is_live_state s ≡ true → s ≡ Live
      live-is Live q = refl
      live-is Dead q = absurd (false≢true q)
      live-is Gone q = absurd (false≢true q)

      stays : to ≡ i → get_or (set ss to Live) i Live ≡ Live
      stays q = rw q (at ss i)
        where
          at : (ss : List State) (i : ℕ) → get_or (set ss i Live) i Live ≡ Live
          at [] i = refl
          at (s ∷ ss) zero = refl
          at (s ∷ ss) (suc i) = at ss i

  -- the lists are cut behind the live slots
  pub compacted : (es fs more : List (ℕ × V)) (ss ts rest : List State) (n a b : ℕ) → length fs ≡ a → length ts ≡ b → take n (slots_of fs ts []) ≡ filter is_live (slots_of es ss []) → slots_of (take n (take a (fs ++ more))) (take n (take b (ts ++ rest))) [] ≡ filter is_live (slots_of es ss [])
  compacted es fs more ss ts rest n a b p q e = rw (take_at fs more a p, take_at ts rest b q) (take-slots_of fs ts n ∙ e)

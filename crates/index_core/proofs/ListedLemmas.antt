-- What an index lists.
use Rattle.std.proofs.Common.{◌≡◌, ◌∙◌, ◌⊎◌, inl, inr, ℕ, zero, suc, ◌+◌, ◌-◌, ◌<◌, ◌≤◌, Bool, true, false, cond, leb, ltb, List, [], ◌∷◌, ◌++◌, length, get_or, take, drop, map, nat_le, ◌&&◌, refl, sym, ap, subst, arith, append_assoc}
use Rattle.std.specs.List.{All, Contains, AllByRecursion, AllWithin, filter}
use Rattle.std.specs.List.Sorted.{IsNonDecreasingBy, IsPermutation, IsPartitionPoint}
use Rattle.std.proofs.lemmas.Bool.{false≢true, cond-true, cond-false, leb-true, leb-false, ltb-true, ltb-false}
use Rattle.std.proofs.lemmas.Grind.{flat_map-append}
use Rattle.std.proofs.lemmas.List.{append-nil, get_or_default, map-append, take-append-drop, take_more}
use Rattle.std.proofs.lemmas.List.Concat.{flat_map-cons}
use Rattle.std.proofs.lemmas.List.Elements.{filter-append, Contains-push, Contains-push_cases, Contains-append_left, Contains-append_right, Contains-append_cases, recursion_from_All}
use Rattle.std.proofs.lemmas.List.Sorted.{Contains-permutation, IsPermutation-append_right}
use Rattle.index_core.specs.declared.entry.Entry.{Entry}
use Rattle.index_core.specs.declared.run.Run.{Run}
use Rattle.index_core.specs.declared.interval.Interval.{Interval}
use Rattle.index_core.specs.Within.{admits, entries_within}
use Rattle.index_core.specs.Listed.{entries_of, numbers_within}

here : {A : Type 0} (x : A) (xs : List A) → Contains (x ∷ xs) x
here x xs = Contains-append_left (x ∷ []) xs x (Contains-push [] x)

there : {A : Type 0} (x : A) (xs : List A) (q : A) → Contains xs q → Contains (x ∷ xs) q
there x xs q h = Contains-append_right (x ∷ []) xs q h

nowhere : {A : Type 0} (q : A) → Contains [] q → ⊥
nowhere q h = omega (arith, h.1)

first_or : {A : Type 0} (x : A) (xs : List A) (q : A) → Contains (x ∷ xs) q → (x ≡ q) ⊎ Contains xs q
first_or x xs q h = by (Contains-append_cases (x ∷ []) xs q h)
  where
    alone : Contains [] q ⊎ (x ≡ q) → (x ≡ q) ⊎ Contains xs q
    alone (inl none) = absurd (nowhere q none)
    alone (inr same) = inl same

    by : Contains (x ∷ []) q ⊎ Contains xs q → (x ≡ q) ⊎ Contains xs q
    by (inl one) = alone (Contains-push_cases [] x q one)
    by (inr later) = inr later

module _ (i : Interval) where
  -- the number of an entry within
  pub number-within : (xs : List Entry) (e : Entry) → Contains xs e → admits i e.key ≡ true → Contains (numbers_within i xs) e.number
  number-within [] e h ok = absurd (nowhere e h)
  number-within (x ∷ xs) e h ok = by (λ later. number-within xs e later ok) (admits i x.key) refl (first_or x xs e h)
    where
      rest : List Entry
      rest = entries_within i xs

      by : (Contains xs e → Contains (numbers_within i xs) e.number) → (b : Bool) → admits i x.key ≡ b → (x ≡ e) ⊎ Contains xs e → Contains (map (λ (k : Entry). k.number) (cond b (x ∷ rest) rest)) e.number
      by f true is (inl same) = subst (λ (y : Entry). Contains (map (λ (k : Entry). k.number) (x ∷ rest)) y.number) same (here x.number (map (λ (k : Entry). k.number) rest))
      by f true is (inr later) = there x.number (map (λ (k : Entry). k.number) rest) e.number (f later)
      by f false is (inl same) = absurd (false≢true (sym is ∙ (ap (λ (y : Entry). admits i y.key) same ∙ ok)))
      by f false is (inr later) = f later

  -- an entry within that bears the number
  record IsEntered (xs : List Entry) (n : ℕ) : Type 0 where
    pub entry : Entry
    pub found : Contains xs entry
    pub within : admits i entry.key ≡ true
    pub bears : entry.number ≡ n

  entered-within : (xs : List Entry) (n : ℕ) → Contains (numbers_within i xs) n → IsEntered xs n
  entered-within [] n h = absurd (nowhere n h)
  entered-within (x ∷ xs) n h = by (λ later. entered-within xs n later) (admits i x.key) refl h
    where
      rest : List Entry
      rest = entries_within i xs

      more : IsEntered xs n → IsEntered (x ∷ xs) n
      more e = record { entry = e.entry; found = there x xs e.entry e.found; within = e.within; bears = e.bears }

      first : (Contains (numbers_within i xs) n → IsEntered xs n) → admits i x.key ≡ true → (x.number ≡ n) ⊎ Contains (numbers_within i xs) n → IsEntered (x ∷ xs) n
      first f ok (inl same) = record { entry = x; found = here x xs; within = ok; bears = same }
      first f ok (inr later) = more (f later)

      by : (Contains (numbers_within i xs) n → IsEntered xs n) → (b : Bool) → admits i x.key ≡ b → Contains (map (λ (k : Entry). k.number) (cond b (x ∷ rest) rest)) n → IsEntered (x ∷ xs) n
      by f true is k = first f is (first_or x.number (map (λ (k : Entry). k.number) rest) n k)
      by f false is k = more (f k)

  -- entries in another order have the same numbers
  pub numbers-permutation : (xs ys : List Entry) (n : ℕ) → IsPermutation xs ys → Contains (numbers_within i xs) n → Contains (numbers_within i ys) n
  numbers-permutation xs ys n p h =
      let e = entered-within xs n h in
      subst (λ m. Contains (numbers_within i ys) m) e.bears (number-within ys e.entry (Contains-permutation xs ys e.entry p e.found) e.within)

  pub numbers_within-append : (xs ys : List Entry) → numbers_within i (xs ++ ys) ≡ numbers_within i xs ++ numbers_within i ys
  numbers_within-append xs ys =
      ap (λ k. map (λ (e : Entry). e.number) k) (filter-append (λ e. admits i e.key) xs ys)
      ∙ map-append (λ e. e.number) (entries_within i xs) (entries_within i ys)

  -- one entry more
  pub kept-pushed : (before tail : List Entry) (e : Entry) (n : ℕ) → Contains (numbers_within i (before ++ tail)) n → Contains (numbers_within i (before ++ (tail ++ e ∷ []))) n
  kept-pushed before tail e n h =
      let all : before ++ tail ++ e ∷ [] ≡ before ++ (tail ++ e ∷ []) = append_assoc before tail (e ∷ []) in
      subst (λ k. Contains (numbers_within i k) n) all
      (subst (λ k. Contains k n) (sym (numbers_within-append (before ++ tail) (e ∷ [])))
      (Contains-append_left (numbers_within i (before ++ tail)) (numbers_within i (e ∷ [])) n h))

  pub noted-pushed : (before tail : List Entry) (e : Entry) → admits i e.key ≡ true → Contains (numbers_within i (before ++ (tail ++ e ∷ []))) e.number
  noted-pushed before tail e ok =
      number-within (before ++ (tail ++ e ∷ [])) e (Contains-append_right before (tail ++ e ∷ []) e (Contains-push tail e)) ok

-- the entries of one run more
pub entries-pushed : (runs : List Run) (run : Run) → entries_of (runs ++ run ∷ []) ≡ entries_of runs ++ run.entries.items
entries-pushed runs run =
    let items : Run → List Entry = λ r. r.entries.items in
    flat_map-append items runs (run ∷ []) ∙ ap (λ k. entries_of runs ++ k) (flat_map-cons items run [] ∙ append-nil run.entries.items)

-- the entries up to a place, and of the run there
pub entries-more : (runs : List Run) (at : ℕ) (run : Run) → at < length runs → run ≡ get_or runs at run → entries_of (take (at + 1) runs) ≡ entries_of (take at runs) ++ run.entries.items
entries-more runs at run lt is =
    ap entries_of (take_more runs at run lt ∙ ap (λ r. take at runs ++ r ∷ []) (sym is)) ∙ entries-pushed (take at runs) run

-- a run that was taken out, and what it has put before the rest
pub entries-joined : (old new : List Run) (run : Run) (all : List Entry) → old ≡ new ++ run ∷ [] → entries_of new ++ (run.entries.items ++ all) ≡ entries_of old ++ all
entries-joined old new run all is =
    sym (append_assoc (entries_of new) run.entries.items all) ∙ ap (λ k. k ++ all) (sym (entries-pushed new run) ∙ ap entries_of (sym is))

-- the entries after all that came was put in order
pub entries-settled : (runs : List Run) (all : List Entry) (run : Run) → IsPermutation all run.entries.items → IsPermutation (entries_of runs ++ all) (entries_of (runs ++ run ∷ []) ++ [])
entries-settled runs all run same =
    subst (λ k. IsPermutation (entries_of runs ++ all) k) (sym (append-nil (entries_of (runs ++ run ∷ [])) ∙ entries-pushed runs run))
    (IsPermutation-append_right (entries_of runs) all run.entries.items same)

filter_none : {A : Type 0} (p : A → Bool) (xs : List A) → AllByRecursion (λ x. p x ≡ false) xs → filter p xs ≡ []
filter_none p [] h = refl
filter_none p (x ∷ xs) h = cond-false (p x) _ _ h.0 ∙ filter_none p xs h.1

filter_all : {A : Type 0} (p : A → Bool) (xs : List A) → AllByRecursion (λ x. p x ≡ true) xs → filter p xs ≡ xs
filter_all p [] h = refl
filter_all p (x ∷ xs) h = cond-true (p x) _ _ h.0 ∙ ap (λ k. x ∷ k) (filter_all p xs h.1)

all_take : {A : Type 0} (P : A → Type 0) (xs : List A) (i : ℕ) → AllWithin P xs 0 i → i ≤ length xs → AllByRecursion P (take i xs)
all_take P xs zero h le = tt
all_take P [] (suc i) h le = tt
all_take P (x ∷ xs) (suc i) h le = (h 0 x (omega arith) (omega arith), all_take P xs i (λ k d low high. h (suc k) d (omega arith) (omega (arith, high))) (omega (arith, le)))

all_drop : {A : Type 0} (P : A → Type 0) (xs : List A) (i : ℕ) → AllWithin P xs i (length xs) → AllByRecursion P (drop i xs)
all_drop P [] zero h = tt
all_drop P [] (suc i) h = tt
all_drop P (x ∷ xs) zero h = (h 0 x (omega arith) (omega arith), all_drop P xs zero (λ k d low high. h (suc k) d (omega arith) (omega (arith, high))))
all_drop P (x ∷ xs) (suc i) h = all_drop P xs i (λ k d low high. h (suc k) d (omega (arith, low)) (omega (arith, high)))

all_implied : {A : Type 0} (P Q : A → Type 0) (xs : List A) → ((x : A) → P x → Q x) → AllByRecursion P xs → AllByRecursion Q xs
all_implied P Q [] f h = tt
all_implied P Q (x ∷ xs) f h = (f x h.0, all_implied P Q xs f h.1)

all_both : {A : Type 0} (P Q R : A → Type 0) (xs : List A) → ((x : A) → P x → Q x → R x) → AllByRecursion P xs → AllByRecursion Q xs → AllByRecursion R xs
all_both P Q R [] f h k = tt
all_both P Q R (x ∷ xs) f h k = (f x h.0 k.0, all_both P Q R xs f h.1 k.1)

all_rest : {A : Type 0} (P : A → Type 0) (xs : List A) (i : ℕ) → AllByRecursion P xs → AllByRecursion P (drop i xs)
all_rest P xs zero h = h
all_rest P [] (suc i) h = tt
all_rest P (x ∷ xs) (suc i) h = all_rest P xs i h.1

-- an entry below an interval is not within, nor is one above it
too-low : (i : Interval) (e : Entry) → e.key < i.lowest → admits i e.key ≡ false
too-low i e low = by (nat_le i.lowest e.key) refl
  where
    by : (b : Bool) → nat_le i.lowest e.key ≡ b → (b && nat_le e.key i.highest) ≡ false
    by true is = let up = leb-true i.lowest e.key is in absurd (omega (arith, up, low))
    by false is = refl

too-high : (i : Interval) (e : Entry) → i.highest < e.key → admits i e.key ≡ false
too-high i e high = by (nat_le e.key i.highest) refl
  where
    last_false : (b : Bool) → (b && false) ≡ false
    last_false true = refl
    last_false false = refl

    by : (b : Bool) → nat_le e.key i.highest ≡ b → (nat_le i.lowest e.key && b) ≡ false
    by true is = let below = leb-true e.key i.highest is in absurd (omega (arith, below, high))
    by false is = last_false (nat_le i.lowest e.key)

-- entries in order of which none is within
module _ (i : Interval) (entries : List Entry) where
  none-of : All (λ e. admits i e.key ≡ false) entries → entries_within i entries ≡ []
  none-of h = filter_none (λ e. admits i e.key) entries (recursion_from_All (λ e. admits i e.key ≡ false) entries h)

  pub none-empty : length entries ≡ 0 → entries_within i entries ≡ []
  none-empty empty = none-of (λ k d within. absurd (omega (arith, within, empty)))

  -- the last one is too low
  pub none-below : (e : Entry) → IsNonDecreasingBy (λ k. k.key) entries → 0 < length entries → (get_or entries (length entries - 1) e).key < i.lowest → entries_within i entries ≡ []
  none-below e sorted some low = none-of below
    where
      below : (k : ℕ) (d : Entry) → k < length entries → admits i (get_or entries k d).key ≡ false
      below k d within =
          let upto : (get_or entries k d).key ≤ (get_or entries (length entries - 1) d).key = sorted k (length entries - 1) d (omega (arith, within)) (omega (arith, some)) in
          let same : (get_or entries (length entries - 1) d).key ≡ (get_or entries (length entries - 1) e).key = ap (λ (x : Entry). x.key) (get_or_default entries (length entries - 1) d e (omega (arith, some))) in
          too-low i (get_or entries k d) (omega (arith, upto, same, low))

  -- or the first one too high
  pub none-above : (e : Entry) → IsNonDecreasingBy (λ k. k.key) entries → i.highest < (get_or entries 0 e).key → entries_within i entries ≡ []
  none-above e sorted high = none-of above
    where
      above : (k : ℕ) (d : Entry) → k < length entries → admits i (get_or entries k d).key ≡ false
      above k d within =
          let from : (get_or entries 0 d).key ≤ (get_or entries k d).key = sorted 0 k d (omega arith) within in
          let same : (get_or entries 0 d).key ≡ (get_or entries 0 e).key = ap (λ (x : Entry). x.key) (get_or_default entries 0 d e (omega (arith, within))) in
          too-high i (get_or entries k d) (omega (arith, from, same, high))

-- what is within of the entries up to the first one that is too high
pub within-upto : (i : Interval) (entries : List Entry) (end : ℕ) → IsPartitionPoint (λ e. leb e.key i.highest ≡ true) (λ e. leb e.key i.highest ≡ false) entries end → entries_within i (take end entries) ≡ entries_within i entries
within-upto i entries end last =
    let p : Entry → Bool = λ e. admits i e.key in
    let behind = filter_none p (drop end entries) (all_implied _ (λ e. p e ≡ false) (drop end entries) (λ e h. too-high i e (leb-false e.key i.highest h)) (all_drop _ entries end last.1)) in
    sym (ap (filter p) (sym (take-append-drop end entries)) ∙ filter-append p (take end entries) (drop end entries)
    ∙ ap (λ k. filter p (take end entries) ++ k) behind ∙ append-nil (filter p (take end entries)))

-- what stands between the first entry that is not too low and the first that is too high
pub between : (i : Interval) (entries : List Entry) (start end : ℕ) → end ≤ length entries → IsPartitionPoint (λ e. leb e.key i.highest ≡ true) (λ e. leb e.key i.highest ≡ false) entries end → start ≤ length (take end entries) → IsPartitionPoint (λ e. ltb e.key i.lowest ≡ true) (λ e. ltb e.key i.lowest ≡ false) (take end entries) start → drop start (take end entries) ≡ entries_within i entries
between i entries start end inside last within first =
    let p : Entry → Bool = λ e. admits i e.key in
    let upto : List Entry = take end entries in
    let low : AllByRecursion (λ e. leb e.key i.highest ≡ true) upto = all_take _ entries end last.0 inside in
    let before = filter_none p (take start upto) (all_implied _ (λ e. p e ≡ false) (take start upto) (λ e h. too-low i e (ltb-true e.key i.lowest h)) (all_take _ upto start first.0 within)) in
    let here_all = filter_all p (drop start upto) (all_both _ _ (λ e. p e ≡ true) (drop start upto) (λ e h k. neither e h k) (all_drop _ upto start first.1) (all_rest _ upto start low)) in
    sym (sym (within-upto i entries end last)
    ∙ ap (filter p) (sym (take-append-drop start upto)) ∙ filter-append p (take start upto) (drop start upto)
    ∙ ap (λ k. k ++ filter p (drop start upto)) before ∙ here_all)
  where
    neither : (e : Entry) → ltb e.key i.lowest ≡ false → leb e.key i.highest ≡ true → admits i e.key ≡ true
    neither e h k = by (nat_le i.lowest e.key) refl
      where
        by : (b : Bool) → nat_le i.lowest e.key ≡ b → (b && nat_le e.key i.highest) ≡ true
        by true is = k
        by false is = let above = leb-false i.lowest e.key is in let below = ltb-false e.key i.lowest h in absurd (omega (arith, above, below))

-- Records that are written one after another.
use Rattle.std.proofs.Common.{◌≡◌, ◌<◌, ◌+◌, ℕ, suc, arith, refl, Bool, true, false, cond, List, [], ◌∷◌, ◌++◌, map, length, take, get_or, sym, ap, subst, ◌∙◌, append-nil, append_assoc}
use Rattle.std.specs.List.{filter, flat_map}
use Rattle.std.proofs.lemmas.List.{map-append, take_more, length-take-le}
use Rattle.std.proofs.lemmas.List.Concat.{flat_map-append}
use Rattle.std.proofs.lemmas.List.Elements.{filter_more}
use Rattle.export_core.specs.Record.{record_line}
use Rattle.explain_records.specs.Telling.{Fields, TellEach, lines, numbered_records}

-- further records behind those so far
pub lines-behind : (start old new : List ℕ) (before more : List Fields) → old ≡ start ++ lines before → new ≡ old ++ lines more → new ≡ start ++ lines (before ++ more)
lines-behind start old new before more so_far grown =
    grown ∙ ap (λ text. text ++ lines more) so_far ∙ append_assoc start (lines before) (lines more)
    ∙ ap (λ text. start ++ text) (sym (flat_map-append record_line before more))

-- one record more
line-behind : (start old new : List ℕ) (before : List Fields) (last : Fields) → old ≡ start ++ lines before → new ≡ old ++ record_line last → new ≡ start ++ lines (before ++ last ∷ [])
line-behind start old new before last so_far grown =
    lines-behind start old new before (last ∷ []) so_far (grown ∙ ap (λ text. old ++ text) (sym (append-nil (record_line last))))

-- the records of those of the items that pass a test
module _ {X : Type 0} (record_of : X → Fields) (test : X → Bool) where
  abbrev chosen : List X → List Fields
  chosen items = map record_of (filter test items)

  chosen-more : (items : List X) (i : ℕ) (d : X) → i < length items
      → chosen (take (i + 1) items) ≡ chosen (take i items) ++ map record_of (cond (test (get_or items i d)) (get_or items i d ∷ []) [])
  chosen-more items i d lt =
      ap (map record_of) (filter_more test items i d lt) ∙ map-append record_of (filter test (take i items)) (cond (test (get_or items i d)) (get_or items i d ∷ []) [])

  pub lines-chosen : (items : List X) (i : ℕ) (d : X) (start old new : List ℕ) → i < length items → test (get_or items i d) ≡ true
      → old ≡ start ++ lines (map record_of (filter test (take i items))) → new ≡ old ++ record_line (record_of (get_or items i d))
      → new ≡ start ++ lines (map record_of (filter test (take (i + 1) items)))
  lines-chosen items i d start old new lt pass so_far grown =
      let x = get_or items i d in
      line-behind start old new (chosen (take i items)) (record_of x) so_far grown
      ∙ ap (λ all. start ++ lines all) (sym (chosen-more items i d lt ∙ ap (λ b. chosen (take i items) ++ map record_of (cond b (x ∷ []) [])) pass))

  pub lines-passed_over : (items : List X) (i : ℕ) (d : X) (start old : List ℕ) → i < length items → test (get_or items i d) ≡ false
      → old ≡ start ++ lines (map record_of (filter test (take i items)))
      → old ≡ start ++ lines (map record_of (filter test (take (i + 1) items)))
  lines-passed_over items i d start old lt fail so_far =
      let x = get_or items i d in
      so_far ∙ ap (λ all. start ++ lines all)
      (sym (chosen-more items i d lt ∙ ap (λ b. chosen (take i items) ++ map record_of (cond b (x ∷ []) [])) fail ∙ append-nil (chosen (take i items))))

-- the records of one more of the items, of which each has some
pub lines-joined : {X : Type 0} (records : X → List Fields) (items : List X) (i : ℕ) (d : X) (start old new : List ℕ) → i < length items
    → old ≡ start ++ lines (flat_map records (take i items)) → new ≡ old ++ lines (records (get_or items i d))
    → new ≡ start ++ lines (flat_map records (take (i + 1) items))
lines-joined records items i d start old new lt so_far grown =
    let x = get_or items i d in
    lines-behind start old new (flat_map records (take i items)) (records x) so_far grown
    ∙ ap (λ all. start ++ lines all)
    (sym (ap (flat_map records) (take_more items i d lt) ∙ flat_map-append records (take i items) (x ∷ []) ∙ ap (λ k. flat_map records (take i items) ++ k) (append-nil (records x))))

-- the records of numbered items
module _ {X : Type 0} (records : ℕ → X → List Fields) where
  numbered-append : (m : ℕ) (xs ys : List X) → numbered_records records m (xs ++ ys) ≡ numbered_records records m xs ++ numbered_records records (m + length xs) ys
  numbered-append m [] ys = ap (λ n. numbered_records records n ys) (let same : m ≡ m + 0 = omega arith in same)
  numbered-append m (x ∷ xs) ys =
      ap (λ k. records m x ++ k) (numbered-append (m + 1) xs ys)
      ∙ sym (append_assoc (records m x) (numbered_records records (m + 1) xs) (numbered_records records (m + 1 + length xs) ys))
      ∙ ap (λ n. (records m x ++ numbered_records records (m + 1) xs) ++ numbered_records records n ys) (let same : m + 1 + length xs ≡ m + suc (length xs) = omega arith in same)

  -- and of one more, whose number is counted beside
  pub numbered-more : (items : List X) (i at : ℕ) (d : X) (start old new : List ℕ) → i < length items → at ≡ i
      → old ≡ start ++ lines (numbered_records records 1 (take i items)) → new ≡ old ++ lines (records (at + 1) (get_or items i d))
      → new ≡ start ++ lines (numbered_records records 1 (take (i + 1) items))
  numbered-more items i at d start old new lt same so_far grown =
      let front = take i items in
      let x = get_or items i d in
      let long : length front ≡ i = length-take-le i items (omega (arith, lt)) in
      let place : 1 + length front ≡ at + 1 = omega (arith, long, same) in
      let one : numbered_records records 1 (take (i + 1) items) ≡ numbered_records records 1 front ++ records (at + 1) x =
      ap (numbered_records records 1) (take_more items i d lt) ∙ numbered-append 1 front (x ∷ [])
      ∙ ap (λ more. numbered_records records 1 front ++ more) (append-nil (records (1 + length front) x))
      ∙ ap (λ n. numbered_records records 1 front ++ records n x) place in
      lines-behind start old new (numbered_records records 1 front) (records (at + 1) x) so_far grown ∙ ap (λ all. start ++ lines all) (sym one)

-- what is told of items, and of one more
module _ {X : Type 0} (Tells : X → List Fields → Type 0) where
  told-append : (xs : List X) (y : X) (before last : List Fields) → TellEach Tells xs before → Tells y last → TellEach Tells (xs ++ y ∷ []) (before ++ last)
  told-append [] y before last none one = (last, [], one, refl, ap (λ (k : List Fields). k ++ last) none ∙ sym (append-nil last))
  told-append (x ∷ xs) y before last (first, more, this, others, is) one =
      (first, more ++ last, this, told-append xs y more last others one, ap (λ (k : List Fields). k ++ last) is ∙ append_assoc first more last)

  -- the records of items so far, in a text that begins with this one
  abbrev pub TellsSoFar : List X → List ℕ → List ℕ → Type 0
  TellsSoFar items start text = (before : List Fields) × TellEach Tells items before × (text ≡ start ++ lines before)

  pub told-more : (items : List X) (i : ℕ) (d : X) (start old new : List ℕ) → i < length items → TellsSoFar (take i items) start old
      → (last : List Fields) × Tells (get_or items i d) last × (new ≡ old ++ lines last) → TellsSoFar (take (i + 1) items) start new
  told-more items i d start old new lt (before, told, so_far) (last, one, grown) =
      let Told : List X → Type 0 = λ xs. TellEach Tells xs (before ++ last) in
      (before ++ last, subst Told (sym (take_more items i d lt)) (told-append (take i items) (get_or items i d) before last told one), lines-behind start old new before last so_far grown)

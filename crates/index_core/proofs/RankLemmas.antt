-- The order of ranks.
use Rattle.std.proofs.Common.{◌≡◌, ◌∙◌, ℕ, zero, suc, ◌+◌, ◌-◌, ◌*◌, ◌^◌, ◌≤◌, ◌<◌, min, ℤ, pos, negsuc, ◌<ℤ◌, Bool, true, false, List, [], ◌∷◌, Some, drop, slice_index, SFits, w64, T, unsigned_abs, int_lt, refl, sym, ap, subst, arith}
use Rattle.std.proofs.Math.Nat.{min-le_left, min-le_right, le-min, mul-le-mul_right, mul_assoc, add-mul, le-mul_of_pos_right}
use Rattle.std.proofs.lemmas.Bool.{false≢true, ltb-true}
use Rattle.std.proofs.lemmas.List.{drop-drop, get_or-drop}
use Rattle.std.specs.Cmp.{ranks, int_ranks}
use Rattle.std.specs.Cmp.Lexicographic.{slice_cmp}
use Rattle.std.specs.Ordering.{MatchOrdering, nat_cmp, int_cmp, is_le, is_ge, ordering_then}
use Rattle.std.specs.declared.cmp.Ordering.{Ordering}
use Rattle.std.specs.declared.cmp.Ordering.TheVariants as orderings
use Rattle.base_core.specs.Values.{value_order}
use Rattle.base_core.specs.declared.value.Value.{Value}
use Rattle.base_core.specs.declared.value.Value.TheVariants as values
use Rattle.index_core.specs.Rank.{texts_of_length, leading, above_lowest, rank}

positive : (k : ℕ) → 0 < texts_of_length k
unfolding texts_of_length
positive zero = omega arith
positive (suc k) = let rest = positive k in omega (arith, rest)

-- what the first bytes come to is below the number of texts of so many
leading-below : (k : ℕ) (bytes : List ℕ) → leading k bytes < texts_of_length k
unfolding texts_of_length leading
leading-below zero bytes = omega arith
leading-below (suc k) [] = let some = positive k in omega (arith, some)
leading-below (suc k) (b ∷ bs) =
    let most = texts_of_length (suc k) - 1 in
    let low : leading (suc k) (b ∷ bs) ≤ most = min-le_right (b * texts_of_length k + leading k bs) most in
    let some = positive (suc k) in
    omega (arith, low, some)

-- a lower digit outweighs all behind it
outweighed : (x y p a b : ℕ) → x < y → a < p → x * p + a ≤ y * p + b
outweighed x y p a b less below =
    let more : (x + 1) * p ≤ y * p = mul-le-mul_right p (omega (arith, less)) in
    let apart : (x + 1) * p ≡ x * p + 1 * p = add-mul x 1 p in
    omega (arith, more, apart, below)

min-more : (x y m : ℕ) → x ≤ y → min x m ≤ min y m
min-more x y m le = let low = min-le_left x m in le-min (omega (arith, low, le)) (min-le_right x m)

-- the first bytes of texts are in the order of the texts
leading-le : (k : ℕ) (xs ys : List ℕ) → is_le (slice_cmp nat_cmp xs ys) ≡ true → leading k xs ≤ leading k ys
unfolding texts_of_length leading
leading-le zero xs ys e = omega arith
leading-le (suc k) [] ys e = omega arith
leading-le (suc k) (x ∷ xs) [] e = absurd (false≢true e)
leading-le (suc k) (x ∷ xs) (y ∷ ys) e = min-more _ _ _ (by (λ l. leading-le k xs ys l) (nat_cmp x y) (ranks x y) e)
  where
    by : (is_le (slice_cmp nat_cmp xs ys) ≡ true → leading k xs ≤ leading k ys) → (o : Ordering) → MatchOrdering o (x < y) (x ≡ y) (y < x) → is_le (ordering_then o (slice_cmp nat_cmp xs ys)) ≡ true → x * texts_of_length k + leading k xs ≤ y * texts_of_length k + leading k ys
    by f orderings.Less less l = outweighed x y (texts_of_length k) (leading k xs) (leading k ys) less (leading-below k xs)
    by f orderings.Equal same l = let rest = f l in let equal = ap (λ n. n * texts_of_length k) same in omega (arith, rest, equal)
    by f orderings.Greater more l = absurd (false≢true l)

-- and in the other direction
leading-ge : (k : ℕ) (xs ys : List ℕ) → is_ge (slice_cmp nat_cmp xs ys) ≡ true → leading k ys ≤ leading k xs
unfolding texts_of_length leading
leading-ge zero xs ys e = omega arith
leading-ge (suc k) xs [] e = omega arith
leading-ge (suc k) [] (y ∷ ys) e = absurd (false≢true e)
leading-ge (suc k) (x ∷ xs) (y ∷ ys) e = min-more _ _ _ (by (λ l. leading-ge k xs ys l) (nat_cmp x y) (ranks x y) e)
  where
    by : (is_ge (slice_cmp nat_cmp xs ys) ≡ true → leading k ys ≤ leading k xs) → (o : Ordering) → MatchOrdering o (x < y) (x ≡ y) (y < x) → is_ge (ordering_then o (slice_cmp nat_cmp xs ys)) ≡ true → y * texts_of_length k + leading k ys ≤ x * texts_of_length k + leading k xs
    by f orderings.Less less l = absurd (false≢true l)
    by f orderings.Equal same l = let rest = f l in let equal = ap (λ n. n * texts_of_length k) same in omega (arith, rest, equal)
    by f orderings.Greater more l = outweighed y x (texts_of_length k) (leading k ys) (leading k xs) more (leading-below k ys)

holds : (t : Bool) → T t → t ≡ true
holds true h = refl
holds false h = absurd h

-- a number that is less than one of 64 bits
pub above-less : (a b : ℤ) → a <ℤ b → SFits w64 b → above_lowest a ≤ above_lowest b - 1
unfolding above_lowest
above-less (pos a) (pos b) h f = let less = ltb-true a b (holds _ h.lt) in omega (arith, less, f.sfits)
above-less (pos a) (negsuc b) h f = absurd h.lt
above-less (negsuc a) (pos b) h f = omega (arith, f.sfits)
above-less (negsuc a) (negsuc b) h f = let less = ltb-true b a (holds _ h.lt) in omega (arith, less, f.sfits)

-- or greater
pub above-greater : (a b : ℤ) → b <ℤ a → SFits w64 b → min (above_lowest b + 1) (2 ^ 64 - 1) ≤ above_lowest a
unfolding above_lowest
above-greater (pos a) (pos b) h f = let less = ltb-true b a (holds _ h.lt) in omega (arith, less, f.sfits)
above-greater (pos a) (negsuc b) h f = omega (arith, f.sfits)
above-greater (negsuc a) (pos b) h f = absurd h.lt
above-greater (negsuc a) (negsuc b) h f = let less = ltb-true a b (holds _ h.lt) in omega (arith, less, f.sfits)

-- how far a number is above the lowest, by its sign
pub above-negative : (z : ℤ) → int_lt z (pos 0) ≡ true → 2 ^ 63 - unsigned_abs z ≡ above_lowest z
unfolding above_lowest
above-negative (pos n) h = let less = ltb-true n 0 h in absurd (omega (arith, less))
above-negative (negsuc n) h = refl

pub above-other : (z : ℤ) → int_lt z (pos 0) ≡ false → SFits w64 z → 2 ^ 63 + unsigned_abs z ≡ above_lowest z
unfolding above_lowest
above-other (pos n) h f = omega (arith, f.sfits)
above-other (negsuc n) h f = absurd (false≢true (sym h))

above-le : (a b : ℤ) → a <ℤ b → above_lowest a ≤ above_lowest b
unfolding above_lowest
above-le (pos a) (pos b) h = let less = ltb-true a b (holds _ h.lt) in min-more _ _ _ (omega (arith, less))
above-le (pos a) (negsuc b) h = absurd h.lt
above-le (negsuc a) (pos b) h = omega arith
above-le (negsuc a) (negsuc b) h = let less = ltb-true b a (holds _ h.lt) in omega (arith, less)

int-le : (a b : ℤ) (o : Ordering) → MatchOrdering o (a <ℤ b) (a ≡ b) (b <ℤ a) → is_le o ≡ true → above_lowest a ≤ above_lowest b
int-le a b orderings.Less m e = above-le a b m
int-le a b orderings.Equal m e = let same = ap above_lowest m in omega (arith, same)
int-le a b orderings.Greater m e = absurd (false≢true e)

int-ge : (a b : ℤ) (o : Ordering) → MatchOrdering o (a <ℤ b) (a ≡ b) (b <ℤ a) → is_ge o ≡ true → above_lowest b ≤ above_lowest a
int-ge a b orderings.Less m e = absurd (false≢true e)
int-ge a b orderings.Equal m e = let same = ap above_lowest m in omega (arith, same)
int-ge a b orderings.Greater m e = above-le b a m

some-same : {A : Type 0} (x y : A) → Some x ≡ Some y → x ≡ y
some-same x y e = cc

-- of two values in order the first has no higher rank
pub rank-le : (v w : Value) (o : Ordering) → value_order v w ≡ Some o → is_le o ≡ true → rank v ≤ rank w
unfolding rank
rank-le (values.Int a) (values.Int b) o is e = int-le a b (int_cmp a b) (int_ranks a b) (ap is_le (some-same (int_cmp a b) o is) ∙ e)
rank-le (values.Int a) (values.Text t) o is e = let no : ⊥ = cc in absurd no
rank-le (values.Text s) (values.Int b) o is e = let no : ⊥ = cc in absurd no
rank-le (values.Text s) (values.Text t) o is e = leading-le 8 s t (ap is_le (some-same (slice_cmp nat_cmp s t) o is) ∙ e)

pub rank-ge : (v w : Value) (o : Ordering) → value_order v w ≡ Some o → is_ge o ≡ true → rank w ≤ rank v
unfolding rank
rank-ge (values.Int a) (values.Int b) o is e = int-ge a b (int_cmp a b) (int_ranks a b) (ap is_ge (some-same (int_cmp a b) o is) ∙ e)
rank-ge (values.Int a) (values.Text t) o is e = let no : ⊥ = cc in absurd no
rank-ge (values.Text s) (values.Int b) o is e = let no : ⊥ = cc in absurd no
rank-ge (values.Text s) (values.Text t) o is e = leading-ge 8 s t (ap is_ge (some-same (slice_cmp nat_cmp s t) o is) ∙ e)

int-less : (a b : ℤ) (o : Ordering) → MatchOrdering o (a <ℤ b) (a ≡ b) (b <ℤ a) → o ≡ orderings.Less → a <ℤ b
int-less a b orderings.Less m e = m
int-less a b orderings.Equal m e = let no : ⊥ = cc in absurd no
int-less a b orderings.Greater m e = let no : ⊥ = cc in absurd no

int-greater : (a b : ℤ) (o : Ordering) → MatchOrdering o (a <ℤ b) (a ≡ b) (b <ℤ a) → o ≡ orderings.Greater → b <ℤ a
int-greater a b orderings.Less m e = let no : ⊥ = cc in absurd no
int-greater a b orderings.Equal m e = let no : ⊥ = cc in absurd no
int-greater a b orderings.Greater m e = m

-- values that are less than a number of 64 bits
pub less-than : (v : Value) (b : ℤ) → SFits w64 b → value_order v (values.Int b) ≡ Some orderings.Less → rank v ≤ above_lowest b - 1
unfolding rank
less-than (values.Int a) b f is = above-less a b (int-less a b (int_cmp a b) (int_ranks a b) (some-same (int_cmp a b) orderings.Less is)) f
less-than (values.Text s) b f is = let no : ⊥ = cc in absurd no

-- or greater
pub greater-than : (v : Value) (b : ℤ) → SFits w64 b → value_order v (values.Int b) ≡ Some orderings.Greater → min (above_lowest b + 1) (2 ^ 64 - 1) ≤ rank v
unfolding rank
greater-than (values.Int a) b f is = above-greater a b (int-greater a b (int_cmp a b) (int_ranks a b) (some-same (int_cmp a b) orderings.Greater is)) f
greater-than (values.Text s) b f is = let no : ⊥ = cc in absurd no

-- no rank is above 64 bits
pub rank-below : (v : Value) → rank v ≤ 2 ^ 64 - 1
unfolding rank above_lowest texts_of_length
rank-below (values.Int (pos n)) = min-le_right (2 ^ 63 + n) (2 ^ 64 - 1)
rank-below (values.Int (negsuc n)) = omega arith
rank-below (values.Text t) = let below : leading 8 t < 2 ^ 64 = leading-below 8 t in omega (arith, below)

nothing : (k : ℕ) → leading k [] ≡ 0
unfolding leading
nothing zero = refl
nothing (suc k) = refl

-- what the digits so far, and what is behind them, come to, with one digit more
step : (k so_far : ℕ) (bytes : List ℕ) → slice_index bytes 0 < 256 → so_far * texts_of_length (suc k) + leading (suc k) bytes ≡ (so_far * 256 + slice_index bytes 0) * texts_of_length k + leading k (drop 1 bytes)
unfolding texts_of_length leading
step k so_far [] below =
    let p = texts_of_length k in
    let none : leading k [] ≡ 0 = nothing k in
    let along : so_far * (256 * p) ≡ so_far * 256 * p = sym (mul_assoc so_far 256 p) in
    let apart : (so_far * 256 + 0) * p ≡ so_far * 256 * p + 0 * p = add-mul (so_far * 256) 0 p in
    omega (arith, none, along, apart)
step k so_far (b ∷ bs) below =
    let p = texts_of_length k in
    let l = leading k bs in
    let less : l < p = leading-below k bs in
    let along : so_far * (256 * p) ≡ so_far * 256 * p = sym (mul_assoc so_far 256 p) in
    let apart : (so_far * 256 + b) * p ≡ so_far * 256 * p + b * p = add-mul (so_far * 256) b p in
    let most : b * p ≤ 255 * p = mul-le-mul_right p (omega (arith, below)) in
    omega (arith, less, along, apart, most)

-- **the digits up to a place, and what is behind them, with one digit more**
pub leading-more : (so_far at byte : ℕ) (bytes : List ℕ) → at < 8 → byte ≡ slice_index bytes at → byte < 256 → so_far * texts_of_length (8 - at) + leading (8 - at) (drop at bytes) ≡ (so_far * 256 + byte) * texts_of_length (8 - (at + 1)) + leading (8 - (at + 1)) (drop (at + 1) bytes)
leading-more so_far at byte bytes lt is below =
    let k = 8 - (at + 1) in
    let more : 8 - at ≡ suc k = omega (arith, lt) in
    let place : at + 0 ≡ at = omega arith in
    let first : slice_index (drop at bytes) 0 ≡ byte = get_or-drop at bytes 0 0 ∙ (ap (λ i. slice_index bytes i) place ∙ sym is) in
    let less : slice_index (drop at bytes) 0 < 256 = subst (λ b. b < 256) (sym first) below in
    let behind : drop 1 (drop at bytes) ≡ drop (at + 1) bytes = drop-drop 1 at bytes in
    ap (λ n. so_far * texts_of_length n + leading n (drop at bytes)) more
    ∙ step k so_far (drop at bytes) less
    ∙ ap (λ b. (so_far * 256 + b) * texts_of_length k + leading k (drop 1 (drop at bytes))) first
    ∙ ap (λ l. (so_far * 256 + byte) * texts_of_length k + leading k l) behind

-- and the number so far is no higher than the whole
pub leading-fits : (so_far k rest whole : ℕ) → so_far * texts_of_length k + rest ≡ whole → so_far ≤ whole
leading-fits so_far k rest whole is =
    let more = le-mul_of_pos_right so_far (positive k) in
    omega (arith, more, is)

-- at the end the number so far is the whole
pub leading-done : (so_far at : ℕ) (bytes : List ℕ) → 8 ≤ at → so_far * texts_of_length (8 - at) + leading (8 - at) (drop at bytes) ≡ leading 8 bytes → so_far ≡ leading 8 bytes
unfolding texts_of_length leading
leading-done so_far at bytes le is =
    let none : 8 - at ≡ 0 = omega (arith, le) in
    let alone : so_far * 1 + 0 ≡ so_far = omega arith in
    sym alone ∙ sym (ap (λ n. so_far * texts_of_length n + leading n (drop at bytes)) none) ∙ is

pub leading-whole : (bytes : List ℕ) → leading 8 bytes < 2 ^ 64
unfolding texts_of_length
leading-whole bytes = leading-below 8 bytes

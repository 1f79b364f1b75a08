-- Exclusive-or, byte by byte: twice with the same, it takes nothing and adds nothing.
use Rattle.std.proofs.Common.{◌≡◌, ◌++◌, ◌+◌, ◌<◌, ℕ, zero, suc, length, take, List, [], ◌∷◌, slice_index_or, slice_set, bit_xor, refl, sym, ◌∙◌, ap, arith}
use Rattle.std.proofs.Math.Seq.{take-length}
use Rattle.std.proofs.lemmas.List.{take_more_set}
use Rattle.std.specs.Int.Bits.{xor_assoc, xor_self, xor_zero_r}
use Rattle.sha2.specs.Sha256.{sha256}
use Rattle.login_core.specs.Hmac.{hmac}
use Rattle.login_core.specs.Pbkdf2.{exclusive_or}
use Rattle.login_core.specs.Scram.{Proves}

pub bit_xor_twice : (x y : ℕ) → bit_xor (bit_xor x y) y ≡ x
bit_xor_twice x y = xor_assoc x y y ∙ ap (bit_xor x) (xor_self y) ∙ xor_zero_r x

pub none : {n : ℕ} → n < 0 → ⊥
none a = omega (a, arith)

pub nothing : {n : ℕ} → 0 ≡ suc n → ⊥
nothing e = omega (e, arith)

pub exclusive_or_twice : (xs ys : List ℕ) → length xs ≡ length ys → exclusive_or (exclusive_or xs ys) ys ≡ xs
exclusive_or_twice [] ys e = refl
exclusive_or_twice (x ∷ xs) [] e = absurd (nothing (sym e))
exclusive_or_twice (x ∷ xs) (y ∷ ys) e =
    ap (λ z. z ∷ exclusive_or (exclusive_or xs ys) ys) (bit_xor_twice x y)
    ∙ ap (λ zs. x ∷ zs) (exclusive_or_twice xs ys (omega (e, arith)))

pub length-exclusive_or : (xs ys : List ℕ) → length xs ≡ length ys → length (exclusive_or xs ys) ≡ length xs
length-exclusive_or [] ys e = refl
length-exclusive_or (x ∷ xs) [] e = absurd (nothing (sym e))
length-exclusive_or (x ∷ xs) (y ∷ ys) e = ap suc (length-exclusive_or xs ys (omega (e, arith)))

-- one more of both
pub both_suc : (xs ys : List ℕ) (i : ℕ) → i < length xs → i < length ys
    → exclusive_or (take (suc i) xs) (take (suc i) ys)
    ≡ exclusive_or (take i xs) (take i ys) ++ bit_xor (slice_index_or xs i 0) (slice_index_or ys i 0) ∷ []
both_suc [] ys i a b = absurd (none a)
both_suc (x ∷ xs) [] i a b = absurd (none b)
both_suc (x ∷ xs) (y ∷ ys) zero a b = refl
both_suc (x ∷ xs) (y ∷ ys) (suc i) a b =
    ap (λ zs. bit_xor x y ∷ zs) (both_suc xs ys i (omega (a, arith)) (omega (b, arith)))

pub both_more : (xs ys : List ℕ) (i : ℕ) → i < length xs → i < length ys
    → exclusive_or (take (i + 1) xs) (take (i + 1) ys)
    ≡ exclusive_or (take i xs) (take i ys) ++ bit_xor (slice_index_or xs i 0) (slice_index_or ys i 0) ∷ []
both_more xs ys i a b =
    let e : i + 1 ≡ suc i = omega arith
    in ap (λ k. exclusive_or (take k xs) (take k ys)) e ∙ both_suc xs ys i a b

pub take_whole : (zs : List ℕ) (i : ℕ) → length zs ≡ i → take i zs ≡ zs
take_whole zs i e = ap (λ k. take k zs) (sym e) ∙ take-length zs

pub step : (xs ys zs : List ℕ) (i : ℕ) → i < length xs → i < length ys → i < length zs
    → take i zs ≡ exclusive_or (take i xs) (take i ys)
    → take (i + 1) (slice_set zs i (bit_xor (slice_index_or xs i 0) (slice_index_or ys i 0)))
    ≡ exclusive_or (take (i + 1) xs) (take (i + 1) ys)
step xs ys zs i a b d is =
    take_more_set zs i (bit_xor (slice_index_or xs i 0) (slice_index_or ys i 0)) d
    ∙ ap (λ k. k ++ bit_xor (slice_index_or xs i 0) (slice_index_or ys i 0) ∷ []) is
    ∙ sym (both_more xs ys i a b)

pub whole : (xs ys zs : List ℕ) (i : ℕ) → length xs ≡ i → length ys ≡ i → length zs ≡ i
    → take i zs ≡ exclusive_or (take i xs) (take i ys) → zs ≡ exclusive_or xs ys
whole xs ys zs i a b d is =
    sym (take_whole zs i d) ∙ is
    ∙ ap (λ k. exclusive_or k (take i ys)) (take_whole xs i a) ∙ ap (λ k. exclusive_or xs k) (take_whole ys i b)

-- ---- what a proof shows

pub shows : (stored message proof : List ℕ) → length proof ≡ 32
    → length (hmac stored message) ≡ 32
    → sha256 (exclusive_or proof (hmac stored message)) ≡ stored → Proves stored message proof
shows stored message proof e h is = (
  exclusive_or proof (hmac stored message),
  (length-exclusive_or proof (hmac stored message) (e ∙ sym h) ∙ e, is),
  sym (exclusive_or_twice proof (hmac stored message) (e ∙ sym h)),
)

pub shown : (stored message proof : List ℕ) → length (hmac stored message) ≡ 32 → Proves stored message proof
    → sha256 (exclusive_or proof (hmac stored message)) ≡ stored
shown stored message proof h p =
    ap (λ k. sha256 (exclusive_or k (hmac stored message))) p.2
    ∙ ap sha256 (exclusive_or_twice p.0 (hmac stored message) (p.1.0 ∙ sym h)) ∙ p.1.1

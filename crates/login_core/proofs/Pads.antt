-- What the loop of `pad` does to its block.
use Rattle.std.proofs.Common.{◌≡◌, ◌++◌, ◌-◌, ◌+◌, ◌≤◌, ◌<◌, ℕ, zero, suc, length, replicate, take, List, [], ◌∷◌, slice_index_or, slice_set, bit_xor, refl, sym, ◌∙◌, ap, arith}
use Rattle.std.proofs.lemmas.List.{set-append_right, map_more, length-map, length-take-le, map-append, append_assoc}
use Rattle.std.proofs.Math.Seq.{take-length}
use Rattle.std.specs.Int.Bits.{xor_zero_l}
use Rattle.login_core.specs.Hmac.{exclusive_or_each, filled_up}

-- the first of so many is set
pub set_first : (n y x : ℕ) → slice_set (replicate (suc n) x) 0 y ≡ y ∷ replicate n x
set_first n y x = refl

pub set_first_of : (m n y x : ℕ) → m ≡ suc n → slice_set (replicate m x) 0 y ≡ y ∷ replicate n x
set_first_of m n y x e = ap (λ k. slice_set (replicate k x) 0 y) e ∙ set_first n y x

pub step : (bits : ℕ) (key block : List ℕ) (i : ℕ) → length key ≤ 64 → i < length key
    → block ≡ exclusive_or_each bits (take i key) ++ replicate (64 - i) bits
    → slice_set block i (bit_xor (slice_index_or key i 0) bits)
    ≡ exclusive_or_each bits (take (i + 1) key) ++ replicate (64 - (i + 1)) bits
step bits key block i fits within is =
    let y : ℕ = bit_xor (slice_index_or key i 0) bits
    in let xs : List ℕ = exclusive_or_each bits (take i key)
    in let ys : List ℕ = replicate (64 - i) bits
    in let rest : List ℕ = replicate (64 - (i + 1)) bits
    in let e1 : length xs ≡ i
    = length-map (take i key) (λ b. bit_xor b bits) ∙ length-take-le i key (omega (within, arith))
    in let e2 : slice_set (xs ++ ys) i y ≡ xs ++ slice_set ys (i - i) y
    = set-append_right xs ys i i y e1 (omega arith)
    in let e3 : i - i ≡ 0 = omega arith
    in let e4 : slice_set ys (i - i) y ≡ y ∷ rest
    = ap (λ k. slice_set ys k y) e3 ∙ set_first_of (64 - i) (64 - (i + 1)) y bits (omega (fits, within, arith))
    in let e5 : exclusive_or_each bits (take (i + 1) key) ≡ xs ++ y ∷ []
    = map_more (λ b. bit_xor b bits) key i 0 within
    in ap (λ b. slice_set b i y) is ∙ e2 ∙ ap (λ k. xs ++ k) e4
    ∙ sym (append_assoc xs (y ∷ []) rest) ∙ ap (λ k. k ++ rest) (sym e5)

-- zeros, each exclusive-or the byte, are that byte
pub padded_zeros : (bits n : ℕ) → exclusive_or_each bits (replicate n 0) ≡ replicate n bits
padded_zeros bits zero = refl
padded_zeros bits (suc n) = ap (λ x. x ∷ exclusive_or_each bits (replicate n 0)) (xor_zero_l bits) ∙ ap (λ xs. bits ∷ xs) (padded_zeros bits n)

pub whole : (bits : ℕ) (key block : List ℕ) (i : ℕ) → i ≡ length key
    → block ≡ exclusive_or_each bits (take i key) ++ replicate (64 - i) bits
    → block ≡ exclusive_or_each bits (filled_up key)
whole bits key block i e is =
    is ∙ ap (λ k. exclusive_or_each bits (take k key) ++ replicate (64 - k) bits) e
    ∙ ap (λ xs. exclusive_or_each bits xs ++ replicate (64 - length key) bits) (take-length key)
    ∙ ap (λ xs. exclusive_or_each bits key ++ xs) (sym (padded_zeros bits (64 - length key)))
    ∙ sym (map-append (λ b. bit_xor b bits) key (replicate (64 - length key) 0))

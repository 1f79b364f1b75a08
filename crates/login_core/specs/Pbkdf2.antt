-- PBKDF2 (RFC 8018, section 5.2) with HMAC-SHA-256 as its pseudorandom function PRF, and one block
-- of 32 bytes as its derived key. RFC 5802, section 2.2, calls the same Hi.
use Rattle.std.specs.Prelude.{ℕ, ◌-◌, zero, suc, List, [], ◌∷◌, ◌++◌, bit_xor}
use Rattle.login_core.specs.Hmac.{hmac}

-- two texts, byte by byte, as long as both go on
abbrev pub exclusive_or : List ℕ → List ℕ → List ℕ
exclusive_or [] ys = []
exclusive_or (x ∷ xs) [] = []
exclusive_or (x ∷ xs) (y ∷ ys) = bit_xor x y ∷ exclusive_or xs ys

-- INT (1), the number of the first block: four bytes, the most significant first
abbrev pub first_block : List ℕ
first_block = 0 ∷ 0 ∷ 0 ∷ 1 ∷ []

-- U_1, U_2 and so on, counted from 0: U_1 = PRF (P, S || INT (1)), and each further one is the PRF
-- of P and the one before
abbrev pub iterate : List ℕ → List ℕ → ℕ → List ℕ
iterate password salt zero = hmac password (salt ++ first_block)
iterate password salt (suc n) = hmac password (iterate password salt n)

-- U_1 \xor U_2 and so on, up to the one that is counted n
abbrev pub exclusive_or_sum : List ℕ → List ℕ → ℕ → List ℕ
exclusive_or_sum password salt zero = iterate password salt zero
exclusive_or_sum password salt (suc n) =
    exclusive_or (exclusive_or_sum password salt n) (iterate password salt (suc n))

-- T_1 = F (P, S, c, 1) = U_1 \xor .. \xor U_c, for a positive count c of iterations
abbrev pub derived_key : List ℕ → List ℕ → ℕ → List ℕ
derived_key password salt count = exclusive_or_sum password salt (count - 1)

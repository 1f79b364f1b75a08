-- A text by the place of the first zero byte.
use Rattle.std.proofs.Common.{◌≡◌, ◌≢◌, ℕ, zero, suc, ◌+◌, ◌<◌, List, [], ◌∷◌, length, get_or, take, drop, Some, None, refl, arith, add-one}
use Rattle.messages_core.specs.Reading.{text_at}

-- the first zero byte stands at n
pub text_up_to : (xs : List ℕ) (n : ℕ) → n < length xs → get_or xs n 0 ≡ 0
    → ((k : ℕ) → k < n → get_or xs k 0 ≢ 0) → text_at xs ≡ Some (take n xs, drop (n + 1) xs)
text_up_to [] n lt here before = absurd (omega arith)
text_up_to (zero ∷ xs) zero lt here before = refl
text_up_to (zero ∷ xs) (suc n) lt here before = absurd (before 0 (omega arith) refl)
text_up_to (suc b ∷ xs) zero lt here before = absurd cc
text_up_to (suc b ∷ xs) (suc n) lt here before =
    rw (add-one, text_up_to xs n (omega arith) here (λ k h. before (suc k) (omega arith)), add-one) refl

-- none does
pub no_text : (xs : List ℕ) → ((k : ℕ) → k < length xs → get_or xs k 0 ≢ 0) → text_at xs ≡ None
no_text [] before = refl
no_text (zero ∷ xs) before = absurd (before 0 (omega arith) refl)
no_text (suc b ∷ xs) before = rw (no_text xs (λ k h. before (suc k) (omega arith))) refl

-- A test is tried at each of the 256 bytes, by computing.
use Rattle.std.proofs.Common.{◌≡◌, ℕ, zero, suc, ◌<◌, Bool, true, ◌&&◌, arith, inl, inr}
use Rattle.std.proofs.lemmas.Bool.{and_parts, cases_eq}

unfoldable pub holds_below : (ℕ → Bool) → ℕ → Bool
holds_below p zero = true
holds_below p (suc n) = p n && holds_below p n

pub each_below : (p : ℕ → Bool) (n : ℕ) → holds_below p n ≡ true → (b : ℕ) → b < n → p b ≡ true
unfolding holds_below
each_below p zero h b l = absurd (omega arith)
each_below p (suc n) h b l =
    let parts = and_parts (p n) (holds_below p n) h in
    elim (cases_eq b n) [ inl same ↦ rw same parts.0 | inr other ↦ each_below p n parts.1 b (omega arith) ]

-- The number that digits spell, summed from the left.
use Rattle.std.proofs.Common.{◌≡◌, ℕ, suc, ◌+◌, ◌-◌, ◌*◌, ◌^◌, ◌<◌, ◌≤◌, List, length, drop, get_or, sym, ◌∙◌, ap, arith}
use Rattle.std.proofs.Math.Nat.{pow-suc, pow-le-pow_right}
use Rattle.std.proofs.lemmas.List.{drop_more}
use Rattle.std.proofs.lemmas.Str.{digit_value_digit}
use Rattle.std.proofs.lemmas.Str.Parse.{digit_at}
use Rattle.std.specs.Int.{IsInRange}
use Rattle.std.specs.Char.{digit_value}
use Rattle.std.specs.Str.Parse.{AllDigits, digits_value, digits_value_after}

-- after i digits
pub record Summed (digits : List ℕ) (i sum : ℕ) : Type 0 where
  pub left : digits_value_after 10 sum (drop i digits) ≡ digits_value 10 digits
  pub below : sum < 10 ^ i

pub below_more : (i sum : ℕ) → sum < 10 ^ i → i ≤ 18 → sum < 10 ^ 18
below_more i sum h few =
    let some : 0 < 10 = omega arith in
    let more : 10 ^ i ≤ 10 ^ 18 = pow-le-pow_right some few in
    omega (arith, more)

module _ (digits : List ℕ) (i sum : ℕ) (s : Summed digits i sum) (h : i < length digits) (all : AllDigits 10 digits) where
  pub digit : IsInRange 48 57 (get_or digits i 0)
  digit = digit_at digits i all h

  tenfold : 10 ^ (i + 1) ≡ 10 ^ i * 10
  tenfold = let e : i + 1 ≡ suc i = omega arith in ap (λ (n : ℕ). 10 ^ n) e ∙ pow-suc 10 i

  pub below_next : sum * 10 + (get_or digits i 0 - 48) < 10 ^ (i + 1)
  below_next = let d = digit in omega (arith, d.0, d.1, s.below, tenfold)

  pub below_all : length digits ≤ 18 → sum * 10 + (get_or digits i 0 - 48) < 10 ^ 18
  below_all few = below_more (i + 1) _ below_next (omega arith)

  pub one_digit : Summed digits (i + 1) (sum * 10 + (get_or digits i 0 - 48))
  one_digit =
      let same : get_or digits i 0 - 48 ≡ digit_value (get_or digits i 0) = omega (arith, digit_value_digit (get_or digits i 0) digit) in
      record {
        left =
            ap (λ (d : ℕ). digits_value_after 10 (sum * 10 + d) (drop (i + 1) digits)) same
            ∙ (ap (digits_value_after 10 sum) (sym (drop_more digits i 0 h)) ∙ s.left);
        below = below_next;
      }

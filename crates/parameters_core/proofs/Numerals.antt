-- The number that digits spell, summed from the left up to where it is too great.
use Rattle.std.proofs.Common.{◌≡◌, ℕ, ◌+◌, ◌-◌, ◌*◌, ◌<◌, ◌≤◌, List, [], ◌∷◌, length, drop, get_or, refl, sym, ◌∙◌, ap, arith}
use Rattle.std.specs.Char.{digit_value}
use Rattle.std.specs.Int.{IsInRange}
use Rattle.std.specs.Str.Parse.{AllDigits, digits_value, digits_value_after}
use Rattle.std.proofs.lemmas.List.{drop_more, drop_all}
use Rattle.std.proofs.lemmas.Str.{digit_value_digit}
use Rattle.std.proofs.lemmas.Str.Parse.{digit_at}

-- what is summed after so many digits, and what they all spell
pub record IsSum (digits : List ℕ) (i number : ℕ) : Type 0 where
  pub left : digits_value_after 10 number (drop i digits) ≡ digits_value 10 digits
  pub few : number ≤ 99

pub no_digits : (digits : List ℕ) → IsSum digits 0 0
no_digits digits = record { left = refl; few = omega arith }

at_least : (digits : List ℕ) (n : ℕ) → n ≤ digits_value_after 10 n digits
at_least [] n = omega arith
at_least (d ∷ ds) n = let more = at_least ds (n * 10 + digit_value d) in omega (arith, more)

module _ (digits : List ℕ) (i number : ℕ) (s : IsSum digits i number) (h : i < length digits) (all : AllDigits 10 digits) where
  pub digit : IsInRange 48 57 (get_or digits i 0)
  digit = digit_at digits i all h

  next_left : digits_value_after 10 (number * 10 + (get_or digits i 0 - 48)) (drop (i + 1) digits) ≡ digits_value 10 digits
  next_left =
      let same : get_or digits i 0 - 48 ≡ digit_value (get_or digits i 0) = omega (arith, digit_value_digit (get_or digits i 0) digit) in
      ap (λ (d : ℕ). digits_value_after 10 (number * 10 + d) (drop (i + 1) digits)) same
      ∙ (ap (digits_value_after 10 number) (sym (drop_more digits i 0 h)) ∙ s.left)

  pub one_more : number * 10 + (get_or digits i 0 - 48) ≤ 99 → IsSum digits (i + 1) (number * 10 + (get_or digits i 0 - 48))
  one_more few = record { left = next_left; few = few }

  pub too_great : 99 < number * 10 + (get_or digits i 0 - 48) → 99 < digits_value 10 digits
  too_great more = omega (arith, more, next_left, at_least (drop (i + 1) digits) (number * 10 + (get_or digits i 0 - 48)))

pub all_summed : (digits : List ℕ) (i number : ℕ) → IsSum digits i number → length digits ≤ i → number ≡ digits_value 10 digits
all_summed digits i number s h = sym (ap (digits_value_after 10 number) (drop_all i digits h)) ∙ s.left

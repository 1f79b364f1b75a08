-- Signs and digits.
use mathlib.Core.Logic.{⊎_elim}
use Rattle.std.proofs.lemmas.Bool.{cases_lt, and_parts}
use Rattle.std.proofs.Common.{◌≡◌, ◌⊎◌, ℕ, ℤ, ◌+◌, ◌-◌, ◌<◌, ◌≤◌, Bool, true, false, ◌&&◌, ◌||◌, cond, List, [], ◌∷◌, Result, Ok, Err, length, take, drop, get_or, refl, sym, ◌∙◌, ap, subst, arith, inl, inr}
use Rattle.std.proofs.lemmas.List.{drop-take, get_or-take, get_or-drop, get_or_past, length-take-le}
use Rattle.std.proofs.lemmas.List.Sums.{prefix_len-le-length}
use Rattle.std.proofs.lemmas.Str.{digit_value_digit}
use Rattle.std.proofs.lemmas.Str.Parse.{digit_at}
use Rattle.std.proofs.lemmas.Bool.Decides.{nat_tests}
use Rattle.std.specs.List.{list_all, prefix_len}
use Rattle.std.specs.Prelude.{◌==◌, if◌then◌else◌, MatchOption}
use Rattle.std.specs.Result.{result_ok}
use Rattle.std.specs.Char.{is_ascii_digit, digit_value}
use Rattle.std.specs.Str.{IsAscii}
use Rattle.std.specs.Str.Parse.{AllDigits, IsNumeral, without_leading_sign, ParsesSigned}
use Rattle.std.proofs.lemmas.Int.{to_z-of_z}
use Rattle.base_core.specs.Words.{is_word_byte}
use mir.Syntax.{w64}
use mir.Val.{SFits as FitsSigned, to_z, of_z}
use Rattle.lexer_core.specs.declared.fault.Code.TheVariants as codes_of
use Rattle.lexer_core.specs.declared.token.TokenKind.TheVariants as kinds
use Rattle.lexer_core.specs.Lexing.{BeginsKind, Fails, Number, IsNumber, IsTooGreat, sign_len, number_len, starts_number, great_number, joined_number}
use Rattle.lexer_core.proofs.Words.{all_front, some_front}

not_equal : (c d : ℕ) → (c ≡ d → ⊥) → (c == d) ≡ false
not_equal c d h = grind (arith, nat_tests)

pub equal : (c d : ℕ) → (c == d) ≡ true → c ≡ d
equal c d h = grind (arith, nat_tests)

-- with no `+` in front, only a `-` is a sign
sign_by : (bs : List ℕ) (b : Bool) → (get_or bs 0 0 == 43) ≡ false → cond b (drop 1 bs) (drop (cond (get_or bs 0 0 == 43) 1 0) bs) ≡ drop (if b then 1 else 0) bs
sign_by bs true e = refl
sign_by bs false e = ap (λ (c : Bool). drop (cond c 1 0) bs) e

pub sign_drop : (bs : List ℕ) → (get_or bs 0 0 ≡ 43 → ⊥) → without_leading_sign bs ≡ drop (sign_len bs) bs
sign_drop bs h = sign_by bs (get_or bs 0 0 == 45) (not_equal (get_or bs 0 0) 43 h)

abbrev pub sign_by_test : Bool → ℕ
sign_by_test b = if b then 1 else 0

pub sign_cases : (b : Bool) → (sign_by_test b ≡ 0) ⊎ ((b ≡ true) × (sign_by_test b ≡ 1))
sign_cases true = inr (refl, refl)
sign_cases false = inl refl

-- a sign and digits are ASCII
pub numeral_ascii : (bs : List ℕ) → (get_or bs 0 0 ≡ 43 → ⊥) → IsNumeral 10 (without_leading_sign bs) → IsAscii bs
numeral_ascii bs h n i =
    let s : ℕ = sign_len bs in
    let ds : List ℕ = drop s bs in
    let digits : AllDigits 10 ds = subst (AllDigits 10) (sign_drop bs h) n.1 in
    let in_sign : i < s → get_or bs i 0 < 128 = λ l. ⊎_elim
    (λ z. absurd (omega arith))
    (λ o. let e = equal (get_or bs 0 0) 45 o.0 in let f : 0 ≡ i = omega (arith, o.1) in subst (λ (k : ℕ). get_or bs k 0 < 128) f (omega (arith, e)))
    (sign_cases (get_or bs 0 0 == 45)) in
    let in_digits : s ≤ i → get_or bs i 0 < 128 = λ l.
    let f : s + (i - s) ≡ i = omega arith in
    let e : get_or ds (i - s) 0 ≡ get_or bs i 0 = get_or-drop s bs (i - s) 0 ∙ ap (λ (k : ℕ). get_or bs k 0) f in
    ⊎_elim
    (λ w. let d = digit_at ds (i - s) digits w in omega (arith, d.1, e))
    (λ w. let z = get_or_past ds (i - s) 0 w in omega (arith, e))
    (cases_lt (i - s) (length ds)) in
    ⊎_elim in_sign in_digits (cases_lt i s)

digit_small : (x : ℕ) → is_ascii_digit x ≡ true → digit_value x < 10
digit_small x e = let lo : 48 ≤ x = grind (arith, nat_tests) in let hi : x ≤ 57 = grind (arith, nat_tests) in omega (arith, digit_value_digit x (lo, hi))

all_digits : (xs : List ℕ) → list_all is_ascii_digit xs ≡ true → AllDigits 10 xs
all_digits [] e = tt
all_digits (x ∷ xs) e = (digit_small x (and_parts (is_ascii_digit x) (list_all is_ascii_digit xs) e).0, all_digits xs (and_parts (is_ascii_digit x) (list_all is_ascii_digit xs) e).1)

no_plus : (x y : ℕ) → (is_ascii_digit x || ((x == 45) && is_ascii_digit y)) ≡ true → x ≡ 43 → ⊥
no_plus x y e is = let f : (is_ascii_digit 43 || ((43 == 45) && is_ascii_digit y)) ≡ true = subst (λ (z : ℕ). (is_ascii_digit z || ((z == 45) && is_ascii_digit y)) ≡ true) is e in cc f

-- what `parse` gives
pub parsed : {E : Type 0} (bs : List ℕ) (r : Result ℤ E) → (get_or bs 0 0 ≡ 43 → ⊥) → IsNumeral 10 (without_leading_sign bs) → ParsesSigned w64 10 bs r → MatchOption (result_ok r) (IsTooGreat bs) (λ z. IsNumber z bs)
parsed bs (Ok z) h n p = record { unsigned = h; digits = n; value = p.1; fits = subst (FitsSigned w64) (sym p.1) p.0.1 }
parsed bs (Err e) h n p = λ f. p (n, f)

pub starts_by : (p b q : Bool) → (b ≡ true → p ≡ false) → (p || (b && q)) ≡ true → ((b ≡ false) × (p ≡ true)) ⊎ ((b ≡ true) × (q ≡ true))
starts_by true true q h e = let clash : true ≡ false = h refl in cc clash
starts_by false true q h e = inr (refl, e)
starts_by true false q h e = inl (refl, refl)
starts_by false false q h e = cc

minus_no_digit : (x : ℕ) → (x == 45) ≡ true → is_ascii_digit x ≡ false
minus_no_digit x e = ap is_ascii_digit (equal x 45 e)

module _ (bytes : List ℕ) (n : ℕ) (is : n ≡ number_len bytes) (within : n ≤ length bytes) (starts : starts_number bytes ≡ true) where
  -- where a number starts, a digit stands behind its sign
  digit_first : is_ascii_digit (get_or (drop (sign_len bytes) bytes) 0 0) ≡ true
  digit_first = ⊎_elim
      (λ z. ap (λ (b : Bool). is_ascii_digit (get_or (drop (sign_by_test b) bytes) 0 0)) z.0 ∙ z.1)
      (λ o. ap (λ (b : Bool). is_ascii_digit (get_or (drop (sign_by_test b) bytes) 0 0)) o.0 ∙ (ap is_ascii_digit (get_or-drop 1 bytes 0 0) ∙ o.1))
      (starts_by (is_ascii_digit (get_or bytes 0 0)) (get_or bytes 0 0 == 45) (is_ascii_digit (get_or bytes 1 0)) (minus_no_digit (get_or bytes 0 0)) starts)

  digits_some : 0 < prefix_len is_ascii_digit (drop (sign_len bytes) bytes)
  digits_some = some_front is_ascii_digit (drop (sign_len bytes) bytes) refl digit_first

  pub number_some : 0 < n
  number_some = let d = digits_some in omega arith

  same_first : get_or (take n bytes) 0 0 ≡ get_or bytes 0 0
  same_first = get_or-take n bytes 0 0 number_some

  pub unsigned : get_or (take n bytes) 0 0 ≡ 43 → ⊥
  unsigned e = no_plus (get_or bytes 0 0) (get_or bytes 1 0) starts (sym same_first ∙ e)

  rest_is : without_leading_sign (take n bytes) ≡ take (prefix_len is_ascii_digit (drop (sign_len bytes) bytes)) (drop (sign_len bytes) bytes)
  rest_is =
      sign_drop (take n bytes) unsigned
      ∙ (ap (λ (x : ℕ). drop (sign_by_test (x == 45)) (take n bytes)) same_first
      ∙ (ap (λ (m : ℕ). drop (sign_len bytes) (take m bytes)) is
      ∙ drop-take (sign_len bytes) (prefix_len is_ascii_digit (drop (sign_len bytes) bytes)) bytes))

  pub numeral : IsNumeral 10 (without_leading_sign (take n bytes))
  numeral = subst (IsNumeral 10) (sym rest_is) (
    let some = digits_some in let le = prefix_len-le-length is_ascii_digit (drop (sign_len bytes) bytes) in
        let len = length-take-le (prefix_len is_ascii_digit (drop (sign_len bytes) bytes)) (drop (sign_len bytes) bytes) le in omega arith,
    all_digits _ (all_front is_ascii_digit (drop (sign_len bytes) bytes)),
  )

  pub number_first : (z : ℤ) → IsNumber z (take n bytes) → is_word_byte (get_or bytes n 0) ≡ false → BeginsKind bytes (kinds.Number (to_z w64 (of_z w64 z))) n
  number_first z spelled ends = record {
    lexeme = Number z;
    same = ap (λ (x : ℤ). kinds.Number x) (sym (to_z-of_z w64 z spelled.fits));
    begins = record { some = number_some; within = within; spelled = spelled; ends = ends };
  }

  pub too_great : IsTooGreat (take n bytes) → Fails bytes codes_of.BadNumber 0
  too_great h = great_number starts (subst (λ (m : ℕ). IsTooGreat (take m bytes)) is h)

  pub joined : is_word_byte (get_or bytes n 0) ≡ true → Fails bytes codes_of.BadNumber 0
  joined h = joined_number starts (subst (λ (m : ℕ). is_word_byte (get_or bytes m 0) ≡ true) is h)

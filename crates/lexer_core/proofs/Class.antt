-- Which token the first bytes may begin.
use mathlib.Core.Logic.{⊎_elim}
use Rattle.std.proofs.Common.{◌≡◌, ℕ, ℤ, ◌+◌, ◌<◌, Bool, true, false, ◌&&◌, ◌||◌, List, length, take, drop, get_or, refl, sym, ◌∙◌, ap, subst, arith, length-drop}
use Rattle.std.proofs.lemmas.List.{get_or-take, get_or-drop, length-take-le}
use Rattle.std.proofs.lemmas.List.Sums.{prefix_len_is}
use Rattle.std.proofs.lemmas.Bool.{and_parts}
use Rattle.std.proofs.lemmas.Bool.Decides.{nat_tests}
use Rattle.std.proofs.lemmas.Str.Parse.{digit_at}
use Rattle.std.specs.Prelude.{◌==◌, if◌then◌else◌}
use Rattle.std.specs.Int.{IsInRange, is_in_range}
use Rattle.std.specs.List.{prefix_len, list_all}
use Rattle.std.specs.Char.{is_ascii_alphabetic, is_ascii_digit}
use Rattle.std.specs.Str.Parse.{IsNumeral, without_leading_sign}
use Rattle.base_core.specs.Words.{is_word, is_word_byte}
use Rattle.lexer_core.specs.declared.token.Mark.{Mark}
use Rattle.lexer_core.specs.declared.token.Mark.TheVariants.{Open, Close, Comma, Star, Semicolon, Equal, NotEqual, Less, LessEqual, Greater, GreaterEqual}
use Rattle.lexer_core.specs.Lexing.{is_blank, starts_number, begins_token, sign_len, number_len, Lexeme, Key, Named, Number, Text, Sign, BeginsLexeme, mark_text, is_mark_byte}
use Rattle.lexer_core.proofs.Numbers.{sign_drop, sign_cases, sign_by_test, starts_by, equal}

pub data Class : Type 0 where
  Stray : Class
  Word : Class
  Numeral : Class
  Quotation : Class
  Punctuation : Class

abbrev pub class_by : Bool → Bool → Bool → Bool → Class
class_by letter number quote mark = if letter then Word else (if number then Numeral else (if quote then Quotation else (if mark then Punctuation else Stray)))

abbrev pub class_at : ℕ → ℕ → Class
class_at a b = class_by (is_ascii_alphabetic a) (is_ascii_digit a || ((a == 45) && is_ascii_digit b)) (a == 39) (is_mark_byte a)

abbrev pub front_class : List ℕ → Class
front_class bytes = class_at (get_or bytes 0 0) (get_or bytes 1 0)

abbrev pub class_of : Lexeme → Class
class_of (Key k) = Word
class_of (Named n) = Word
class_of (Number z) = Numeral
class_of (Text t) = Quotation
class_of (Sign m) = Punctuation

module _ (bytes : List ℕ) where
  pub letter_class : is_ascii_alphabetic (get_or bytes 0 0) ≡ true → front_class bytes ≡ Word
  letter_class e = ap (λ (x : Bool). class_by x (starts_number bytes) (get_or bytes 0 0 == 39) (is_mark_byte (get_or bytes 0 0))) e

  pub quote_class : get_or bytes 0 0 ≡ 39 → front_class bytes ≡ Quotation
  quote_class e = ap (λ (a : ℕ). class_at a (get_or bytes 1 0)) e

digit_is_no_letter : (b : ℕ) → is_ascii_digit b ≡ true → is_ascii_alphabetic b ≡ false
digit_is_no_letter b h = grind (arith, nat_tests)

minus_is_no_digit : (b : ℕ) → (b == 45) ≡ true → is_ascii_digit b ≡ false
minus_is_no_digit b e = ap is_ascii_digit (equal b 45 e)

no_letter : (a b : ℕ) → (is_ascii_digit a || ((a == 45) && is_ascii_digit b)) ≡ true → is_ascii_alphabetic a ≡ false
no_letter a b e = ⊎_elim
    (λ d. digit_is_no_letter a d.1)
    (λ m. ap is_ascii_alphabetic (equal a 45 m.0))
    (starts_by (is_ascii_digit a) (a == 45) (is_ascii_digit b) (minus_is_no_digit a) e)

pub number_class : (bytes : List ℕ) → starts_number bytes ≡ true → front_class bytes ≡ Numeral
number_class bytes e =
    ap (λ (x : Bool). class_by x (starts_number bytes) (get_or bytes 0 0 == 39) (is_mark_byte (get_or bytes 0 0))) (no_letter (get_or bytes 0 0) (get_or bytes 1 0) e)
    ∙ ap (λ (x : Bool). class_by false x (get_or bytes 0 0 == 39) (is_mark_byte (get_or bytes 0 0))) e

stray_by : (a b c d : Bool) → (((a || b) || c) || d) ≡ false → class_by a b c d ≡ Stray
stray_by true b c d e = cc
stray_by false true c d e = cc
stray_by false false true d e = cc
stray_by false false false true e = cc
stray_by false false false false e = refl

pub stray_class : (bytes : List ℕ) → begins_token bytes ≡ false → front_class bytes ≡ Stray
stray_class bytes e = stray_by (is_ascii_alphabetic (get_or bytes 0 0)) (starts_number bytes) (get_or bytes 0 0 == 39) (is_mark_byte (get_or bytes 0 0)) e

blank_by : (a b : ℕ) (x : Bool) → (a == 32) ≡ x → (x || (a == 9)) ≡ true → class_at a b ≡ Stray
blank_by a b true e f = ap (λ (c : ℕ). class_at c b) (equal a 32 e)
blank_by a b false e f = ap (λ (c : ℕ). class_at c b) (equal a 9 f)

pub blank_class : (bytes : List ℕ) → is_blank (get_or bytes 0 0) ≡ true → front_class bytes ≡ Stray
blank_class bytes e = blank_by (get_or bytes 0 0) (get_or bytes 1 0) (get_or bytes 0 0 == 32) refl e

mark_class : (m : Mark) (b : ℕ) → class_at (get_or (mark_text m) 0 0) b ≡ Punctuation
mark_class Open b = refl
mark_class Close b = refl
mark_class Comma b = refl
mark_class Star b = refl
mark_class Semicolon b = refl
mark_class Equal b = refl
mark_class NotEqual b = refl
mark_class Less b = refl
mark_class LessEqual b = refl
mark_class Greater b = refl
mark_class GreaterEqual b = refl

pub first_of_piece : (bytes : List ℕ) (l : Lexeme) (n : ℕ) → BeginsLexeme bytes l n → get_or (take n bytes) 0 0 ≡ get_or bytes 0 0
first_of_piece bytes l n b = get_or-take n bytes 0 0 b.some

word_begins : (bytes : List ℕ) (l : Lexeme) (n : ℕ) → BeginsLexeme bytes l n → is_word (take n bytes) ≡ true → front_class bytes ≡ Word
word_begins bytes l n b w = letter_class bytes (ap is_ascii_alphabetic (sym (first_of_piece bytes l n b)) ∙ (and_parts (is_ascii_alphabetic (get_or (take n bytes) 0 0)) (list_all is_word_byte (take n bytes)) w).0)

digit_test : (b : ℕ) → IsInRange 48 57 b → is_ascii_digit b ≡ true
digit_test b h = let low = h.0 in let high = h.1 in grind (arith, nat_tests)

no_digit : (d u l v : Bool) → (((d || u) || l) || v) ≡ false → d ≡ false
no_digit false u l v e = refl
no_digit true u l v e = cc

no_digit_byte : (b : ℕ) → is_word_byte b ≡ false → is_ascii_digit b ≡ false
no_digit_byte b e = no_digit (is_in_range 48 57 b) (is_in_range 65 90 b) (is_in_range 97 122 b) (b == 95) e

or_left : (a b : Bool) → a ≡ true → (a || b) ≡ true
or_left a b e = ap (λ (x : Bool). x || b) e

minus_digit : (a b : ℕ) → a ≡ 45 → is_ascii_digit b ≡ true → (is_ascii_digit a || ((a == 45) && is_ascii_digit b)) ≡ true
minus_digit a b e f = ap (λ (x : ℕ). is_ascii_digit x || ((x == 45) && is_ascii_digit b)) e ∙ f

module _ (bytes : List ℕ) (z : ℤ) (n : ℕ) (b : BeginsLexeme bytes (Number z) n) where
  sign_same : sign_len (take n bytes) ≡ sign_len bytes
  sign_same = ap (λ (x : ℕ). sign_by_test (x == 45)) (first_of_piece bytes (Number z) n b)

  rest_same : without_leading_sign (take n bytes) ≡ drop (sign_len bytes) (take n bytes)
  rest_same = sign_drop (take n bytes) b.spelled.unsigned ∙ ap (λ (s : ℕ). drop s (take n bytes)) sign_same

  digits_here : IsNumeral 10 (drop (sign_len bytes) (take n bytes))
  digits_here = subst (IsNumeral 10) rest_same b.spelled.digits

  rest_len : length (drop (sign_len bytes) (take n bytes)) + sign_len bytes ≡ n
  rest_len = omega (arith, length-drop (sign_len bytes) (take n bytes), length-take-le n bytes b.within, digits_here.0)

  digit_here : (k : ℕ) → k < length (drop (sign_len bytes) (take n bytes)) → IsInRange 48 57 (get_or (drop (sign_len bytes) bytes) k 0)
  digit_here k h =
      let e : get_or (drop (sign_len bytes) (take n bytes)) k 0 ≡ get_or (drop (sign_len bytes) bytes) k 0 =
      get_or-drop (sign_len bytes) (take n bytes) k 0 ∙ (get_or-take n bytes (sign_len bytes + k) 0 (omega (arith, rest_len)) ∙ sym (get_or-drop (sign_len bytes) bytes k 0)) in
      subst (IsInRange 48 57) e (digit_at (drop (sign_len bytes) (take n bytes)) k digits_here.1 h)

  number_digits : prefix_len is_ascii_digit (drop (sign_len bytes) bytes) ≡ length (drop (sign_len bytes) (take n bytes))
  number_digits =
      let e : get_or (drop (sign_len bytes) bytes) (length (drop (sign_len bytes) (take n bytes))) 0 ≡ get_or bytes n 0 =
      get_or-drop (sign_len bytes) bytes (length (drop (sign_len bytes) (take n bytes))) 0 ∙ ap (λ (k : ℕ). get_or bytes k 0) (let f : sign_len bytes + length (drop (sign_len bytes) (take n bytes)) ≡ n = omega (arith, rest_len) in f) in
      prefix_len_is is_ascii_digit (drop (sign_len bytes) bytes) (length (drop (sign_len bytes) (take n bytes))) 0
      (omega (arith, rest_len, length-drop (sign_len bytes) bytes, b.within))
      (λ k h. digit_test (get_or (drop (sign_len bytes) bytes) k 0) (digit_here k h))
      (λ h. ap is_ascii_digit e ∙ no_digit_byte (get_or bytes n 0) b.ends)

  -- a number's length, and what it begins with
  pub number_is : n ≡ number_len bytes
  number_is = omega (arith, rest_len, number_digits)

  digit_first : is_ascii_digit (get_or (drop (sign_len bytes) bytes) 0 0) ≡ true
  digit_first = digit_test (get_or (drop (sign_len bytes) bytes) 0 0) (digit_here 0 digits_here.0)

  pub number_starts : starts_number bytes ≡ true
  number_starts = ⊎_elim
      (λ o. or_left (is_ascii_digit (get_or bytes 0 0)) ((get_or bytes 0 0 == 45) && is_ascii_digit (get_or bytes 1 0)) (ap (λ (s : ℕ). is_ascii_digit (get_or (drop s bytes) 0 0)) (sym o) ∙ digit_first))
      (λ o. minus_digit (get_or bytes 0 0) (get_or bytes 1 0) (equal (get_or bytes 0 0) 45 o.0)
      (ap is_ascii_digit (sym (get_or-drop 1 bytes 0 0)) ∙ (ap (λ (s : ℕ). is_ascii_digit (get_or (drop s bytes) 0 0)) (sym o.1) ∙ digit_first)))
      (sign_cases (get_or bytes 0 0 == 45))

pub begins_class : (bytes : List ℕ) (l : Lexeme) (n : ℕ) → BeginsLexeme bytes l n → front_class bytes ≡ class_of l
begins_class bytes (Key k) n b = word_begins bytes (Key k) n b b.spelled.0
begins_class bytes (Named w) n b = word_begins bytes (Named w) n b b.spelled.0
begins_class bytes (Number z) n b = number_class bytes (number_starts bytes z n b)
begins_class bytes (Text t) n b = quote_class bytes (sym (first_of_piece bytes (Text t) n b) ∙ ap (λ (r : List ℕ). get_or r 0 0) b.spelled.quoted.split)
begins_class bytes (Sign m) n b = ap (λ (a : ℕ). class_at a (get_or bytes 1 0)) (sym (first_of_piece bytes (Sign m) n b) ∙ ap (λ (r : List ℕ). get_or r 0 0) b.spelled) ∙ mark_class m (get_or bytes 1 0)

differs : (l : Lexeme) → class_of l ≡ Stray → ⊥
differs (Key k) e = cc e
differs (Named w) e = cc e
differs (Number z) e = cc e
differs (Text t) e = cc e
differs (Sign m) e = cc e

-- a token begins with no blank
pub no_blank : (bytes : List ℕ) (l : Lexeme) (n : ℕ) → is_blank (get_or bytes 0 0) ≡ true → BeginsLexeme bytes l n → ⊥
no_blank bytes l n e b = differs l (sym (begins_class bytes l n b) ∙ blank_class bytes e)

-- At the front of some bytes stands a token or a fault.
use mathlib.Core.Logic.{⊎_elim}
use Rattle.std.proofs.lemmas.Bool.{cases_lt, and_from}
use Rattle.std.proofs.lemmas.List.{get_or_past, length-take}
use Rattle.std.proofs.lemmas.List.Sums.{prefix_len-le-length}
use Rattle.std.proofs.lemmas.Bool.Decides.{nat_tests}
use Rattle.std.proofs.Common.{◌≡◌, ◌⊎◌, ℕ, ℤ, zero, suc, ◌+◌, ◌-◌, ◌^◌, ◌<◌, ◌≤◌, Bool, true, false, ◌&&◌, not, Option, Some, None, List, length, take, drop, refl, sym, ◌∙◌, ap, arith, length-drop, inl, inr, nat_le, is_some}
use Rattle.std.specs.Prelude.{◌==◌, if◌then◌else◌, slice_index}
use Rattle.std.specs.List.{prefix_len}
use Rattle.std.specs.Char.{is_ascii_alphabetic, is_ascii_digit}
use Rattle.std.specs.Str.Parse.{signed_digits_value}
use mir.Syntax.{w64}
use mir.Val.{SFits as FitsSigned, hbits}
use lib.Signed.{mag}
use Rattle.base_core.specs.Words.{is_word_byte, is_word, keyword_of, name_of, folded}
use Rattle.base_core.specs.declared.keyword.Keyword.{Keyword}
use Rattle.lexer_core.specs.declared.fault.Code.{Code}
use Rattle.lexer_core.specs.declared.fault.Code.TheVariants.{BadByte, TooLong, OpenText, LongName, BadNumber}
use Rattle.lexer_core.specs.declared.token.TokenKind.{TokenKind}
use Rattle.lexer_core.specs.declared.token.TokenKind.TheVariants as kinds
use Rattle.lexer_core.specs.Lexing.{BeginsKind, Fails, is_blank, is_mark_byte, starts_number, number_len, sign_len, long_name, stray}
use Rattle.lexer_core.proofs.Words.{keyword_first, name_first, front_is_word}
use Rattle.lexer_core.proofs.Numbers.{number_first, too_great, joined, unsigned, numeral, sign_cases, equal}
use Rattle.lexer_core.proofs.Texts.{InText, opened, one_plain, one_quote, one_bad, no_end, too_long, whole_text, quote_within, plain_some}
use Rattle.lexer_core.proofs.Marks.{mark_first, none_of}
use Rattle.lexer_core.proofs.EachChar.{plain_or_not}
use Rattle.lexer_core.proofs.EachMark.{mark_stands}

abbrev pub TokenOrFault : List ℕ → Type 0
TokenOrFault bytes = ((kind : TokenKind) × (n : ℕ) × BeginsKind bytes kind n) ⊎ ((code : Code) × (by : ℕ) × Fails bytes code by)

fits_or_not : (z : ℤ) → FitsSigned w64 z ⊎ (FitsSigned w64 z → ⊥)
fits_or_not z = ⊎_elim (λ l. inl (record { sfits = l })) (λ g. inr (λ f. let l = f.sfits in omega arith)) (cases_lt (mag z) (2 ^ hbits w64))

no_quote : (b : ℕ) → (b == 39) ≡ false → b ≡ 39 → ⊥
no_quote b e is = let clash : true ≡ false = ap (λ (x : ℕ). x == 39) (sym is) ∙ e in cc clash

module _ (bytes : List ℕ) where
  some_bytes : (b : ℕ) → slice_index bytes 0 ≡ b → 0 < b → 0 < length bytes
  some_bytes b e some = ⊎_elim (λ l. l) (λ l. let z = get_or_past bytes 0 0 l in absurd (omega (arith, e))) (cases_lt 0 (length bytes))

  module _ (letter : is_ascii_alphabetic (slice_index bytes 0) ≡ true) where
    abbrev word_length : ℕ
    word_length = prefix_len is_word_byte bytes

    abbrev word : List ℕ
    word = take word_length bytes

    named : length word ≤ 30 → keyword_of word ≡ None → name_of word ≡ Some (folded word)
    named short e =
        let few : nat_le (length word) 30 ≡ true = grind (arith, nat_tests) in
        let both : (is_word word && nat_le (length word) 30) ≡ true = and_from (is_word word) (nat_le (length word) 30) (front_is_word bytes word_length refl letter) few in
        ap (λ (b : Bool). if b then Some (folded word) else None) (and_from (is_word word && nat_le (length word) 30) (not (is_some (keyword_of word))) both (ap (λ (k : Option Keyword). not (is_some k)) e))

    short_word : word_length ≤ 30 → TokenOrFault bytes
    short_word h = by (keyword_of word) refl
      where
        by : (k : Option Keyword) → keyword_of word ≡ k → TokenOrFault bytes
        by (Some k) e = inl (kinds.Keyword k, word_length, keyword_first bytes word_length refl letter k e)
        by None e = inl (kinds.Name (folded word), word_length, name_first bytes word_length refl letter (folded word) (named (omega (arith, length-take word_length bytes)) e))

    at_word : TokenOrFault bytes
    at_word = ⊎_elim (λ l. inr (LongName, 0, long_name letter l)) (λ h. short_word h) (cases_lt 30 word_length)

  module _ (starts : starts_number bytes ≡ true) where
    number_within : number_len bytes ≤ length bytes
    number_within =
        let digits = prefix_len-le-length is_ascii_digit (drop (sign_len bytes) bytes) in
        let left = length-drop (sign_len bytes) bytes in
        ⊎_elim
        (λ none. omega (arith, none, digits, left))
        (λ minus. let first = equal (slice_index bytes 0) 45 minus.0 in omega (arith, minus.1, digits, left, some_bytes 45 first (omega arith)))
        (sign_cases (slice_index bytes 0 == 45))

    alone : is_word_byte (slice_index bytes (number_len bytes)) ≡ false → TokenOrFault bytes
    alone ends = elim (fits_or_not (signed_digits_value 10 (take (number_len bytes) bytes))) [
      | inl f ↦ inl (
        _,
        number_len bytes,
        number_first bytes (number_len bytes) refl number_within starts (signed_digits_value 10 (take (number_len bytes) bytes))
            record { unsigned = unsigned bytes (number_len bytes) refl number_within starts; digits = numeral bytes (number_len bytes) refl number_within starts; value = refl; fits = f } ends,
      )
      | inr g ↦ inr (BadNumber, 0, too_great bytes (number_len bytes) refl number_within starts g)
    ]

    at_number : TokenOrFault bytes
    at_number = by (is_word_byte (slice_index bytes (number_len bytes))) refl
      where
        by : (b : Bool) → is_word_byte (slice_index bytes (number_len bytes)) ≡ b → TokenOrFault bytes
        by true e = inr (BadNumber, 0, joined bytes (number_len bytes) refl number_within starts e)
        by false e = alone e

  -- in a text, after so many bytes; further on there is a token or a fault
  module _ (at size fuel : ℕ) (h : length bytes ≤ at + suc fuel) (t : InText bytes at size) (inside : at < length bytes)
      (further : (at size : ℕ) → length bytes ≤ at + fuel → InText bytes at size → TokenOrFault bytes) where
    at_end : slice_index bytes at ≡ 39 → (slice_index bytes (at + 1) ≡ 39 → ⊥) → TokenOrFault bytes
    at_end close single = ⊎_elim
        (λ l. inr (TooLong, 0, too_long bytes at size t inside close single l))
        (λ h. inl (kinds.Text, at + 1, whole_text bytes at size t inside close single h))
        (cases_lt 1024 size)

    at_other : (slice_index bytes at ≡ 39 → ⊥) → TokenOrFault bytes
    at_other no_quote = elim (plain_or_not (take (length bytes - at) (drop at bytes))) [
      | inl p ↦ let some = plain_some _ p.0 p.1 in further (at + p.0) (size + p.0) (omega (arith, h, some)) (one_plain bytes at size t p.0 p.1 inside no_quote)
      | inr n ↦ inr (BadByte, at, one_bad bytes at size t n inside no_quote)
    ]

    at_quote : slice_index bytes at ≡ 39 → (b : Bool) → (slice_index bytes (at + 1) == 39) ≡ b → TokenOrFault bytes
    at_quote first true e =
        let second = equal (slice_index bytes (at + 1)) 39 e in
        further (at + 2) (size + 1) (omega (arith, h)) (one_quote bytes at size t (quote_within bytes (at + 1) second) first second)
    at_quote first false e = at_end first (no_quote (slice_index bytes (at + 1)) e)

    at_byte : (b : Bool) → (slice_index bytes at == 39) ≡ b → TokenOrFault bytes
    at_byte true e = at_quote (equal (slice_index bytes at) 39 e) (slice_index bytes (at + 1) == 39) refl
    at_byte false e = at_other (no_quote (slice_index bytes at) e)

  in_text : (fuel at size : ℕ) → length bytes ≤ at + fuel → InText bytes at size → TokenOrFault bytes
  in_text zero at size h t = inr (OpenText, 0, no_end bytes at size t (omega (arith, h)))
  in_text (suc fuel) at size h t = ⊎_elim
      (λ l. at_byte at size fuel h t l (λ at size h t. in_text fuel at size h t) (slice_index bytes at == 39) refl)
      (λ g. inr (OpenText, 0, no_end bytes at size t g))
      (cases_lt at (length bytes))

  at_text : slice_index bytes 0 ≡ 39 → TokenOrFault bytes
  at_text e = in_text (length bytes) 1 0 (omega arith) (opened bytes e)

  at_mark : is_mark_byte (slice_index bytes 0) ≡ true → TokenOrFault bytes
  at_mark e = let m = mark_stands bytes e in inl (kinds.Mark m.0, _, mark_first bytes m.0 _ m.1 refl)

  pub token_or_fault : 0 < length bytes → is_blank (slice_index bytes 0) ≡ false → TokenOrFault bytes
  token_or_fault some no_blank = by (is_ascii_alphabetic (slice_index bytes 0)) (starts_number bytes) (slice_index bytes 0 == 39) (is_mark_byte (slice_index bytes 0)) refl refl refl refl
    where
      by : (letter number quote mark : Bool) → is_ascii_alphabetic (slice_index bytes 0) ≡ letter → starts_number bytes ≡ number → (slice_index bytes 0 == 39) ≡ quote → is_mark_byte (slice_index bytes 0) ≡ mark → TokenOrFault bytes
      by true number quote mark e f g h = at_word e
      by false true quote mark e f g h = at_number f
      by false false true mark e f g h = at_text (equal _ 39 g)
      by false false false true e f g h = at_mark h
      by false false false false e f g h = inr (BadByte, 0, stray (none_of _ _ _ _ e f g h) no_blank some)

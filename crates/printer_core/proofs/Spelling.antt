-- Each token's text spells it.
use Rattle.std.proofs.Common.{◌≡◌, ℕ, ℤ, pos, negsuc, ◌<◌, ◌≤◌, ◌^◌, true, false, cond, List, [], ◌∷◌, ◌++◌, length, drop, get_or, suc, Some, None, ap, sym, subst, ◌∙◌, refl, arith}
use Rattle.std.specs.Prelude.{if◌then◌else◌, neg_ℤ}
use Rattle.std.specs.Fmt.{decimal, signed_decimal}
use Rattle.std.specs.Str.Parse.{IsNumeral, digits_value, without_leading_sign, starts_with_minus}
use Rattle.std.proofs.lemmas.Bool.Decides.{nat_tests}
use Rattle.std.proofs.lemmas.Fmt.{decimal_is_IsNumeral, decimal_nonempty}
use Rattle.std.proofs.lemmas.Int.{ints}
use Rattle.std.proofs.lemmas.Str.Parse.{digit_at}
use mir.Syntax.{w64}
use mir.Val.{SFits as FitsSigned}
use Rattle.base_core.specs.Words.{text_of, is_word, name_of, keyword_of, all_keywords, folded, IsName}
use Rattle.base_core.specs.Texts.{IsText}
use Rattle.base_core.specs.declared.keyword.Keyword.{Keyword}
use Rattle.base_core.specs.declared.keyword.Keyword.TheVariants as keywords
use Rattle.lexer_core.specs.Lexing.{IsProper, Lexeme, Key, Named, Number, Text, Sign, SpellsLexeme, IsNumber, QuotesText, mark_text}
use Rattle.lexer_core.specs.declared.token.Mark.{Mark}
use Rattle.lexer_core.specs.declared.token.Mark.TheVariants as marks
use Rattle.lexer_core.proofs.Numbers.{sign_drop}
use Rattle.printer_core.specs.Printing.{lexeme_text, doubled}
use Rattle.printer_core.proofs.Doubled.{doubled_written}
use Rattle.printer_core.proofs.Names.{name_word}

pub keyword_spells : (k : Keyword) → (is_word (text_of k) ≡ true) × (keyword_of (text_of k) ≡ Some k)
unfolding keyword_of all_keywords
keyword_spells keywords.And = (refl, refl)
keyword_spells keywords.Checkpoint = (refl, refl)
keyword_spells keywords.Checkpoints = (refl, refl)
keyword_spells keywords.Create = (refl, refl)
keyword_spells keywords.Delete = (refl, refl)
keyword_spells keywords.Export = (refl, refl)
keyword_spells keywords.For = (refl, refl)
keyword_spells keywords.From = (refl, refl)
keyword_spells keywords.Grant = (refl, refl)
keyword_spells keywords.Insert = (refl, refl)
keyword_spells keywords.Integer = (refl, refl)
keyword_spells keywords.Into = (refl, refl)
keyword_spells keywords.On = (refl, refl)
keyword_spells keywords.Only = (refl, refl)
keyword_spells keywords.Option = (refl, refl)
keyword_spells keywords.Revoke = (refl, refl)
keyword_spells keywords.Select = (refl, refl)
keyword_spells keywords.Set = (refl, refl)
keyword_spells keywords.Table = (refl, refl)
keyword_spells keywords.Text = (refl, refl)
keyword_spells keywords.To = (refl, refl)
keyword_spells keywords.Update = (refl, refl)
keyword_spells keywords.Values = (refl, refl)
keyword_spells keywords.Where = (refl, refl)
keyword_spells keywords.With = (refl, refl)

pub name_spells : (n : List ℕ) → IsName n → (is_word n ≡ true) × (name_of n ≡ Some n)
name_spells n h = (name_word n h, ap (λ b. if b then Some (folded n) else None) h.named ∙ ap Some h.small)

module _ (n : ℕ) (h : n < 2 ^ 64) where
  digits : List ℕ
  digits = decimal n

  numeral : IsNumeral 10 (decimal n) × (digits_value 10 (decimal n) ≡ n)
  numeral = decimal_is_IsNumeral n h

  pub first_digit : (48 ≤ get_or (decimal n) 0 0) × (get_or (decimal n) 0 0 ≤ 57)
  first_digit = let d = digit_at (decimal n) 0 numeral.0.1 (decimal_nonempty n h) in (d.0, d.1)

no_sign : (bs : List ℕ) → 48 ≤ get_or bs 0 0 → (get_or bs 0 0 ≡ 43 → ⊥) × (starts_with_minus bs ≡ false)
no_sign bs h = ((λ e. absurd (omega arith)), grind (arith, nat_tests))

positive : (n : ℕ) → n < 2 ^ 64 → FitsSigned w64 (pos n) → IsNumber (pos n) (decimal n)
positive n h f =
    let bs = decimal n in
    let first = first_digit n h in
    let plain = no_sign bs first.0 in
    let bare : without_leading_sign bs ≡ bs = sign_drop bs plain.0 ∙ ap (λ b. drop (if b then 1 else 0) bs) plain.1 in
    record {
      unsigned = plain.0;
      digits = subst (IsNumeral 10) (sym bare) (numeral n h).0;
      value = sym (ap (λ b. cond b (neg_ℤ (pos (digits_value 10 (without_leading_sign bs)))) (pos (digits_value 10 (without_leading_sign bs)))) plain.1 ∙ ap (λ (x : List ℕ). pos (digits_value 10 x)) bare ∙ ap pos (numeral n h).1);
      fits = f;
    }

negative : (n : ℕ) → suc n < 2 ^ 64 → FitsSigned w64 (negsuc n) → IsNumber (negsuc n) (45 ∷ decimal (suc n))
negative n h f = record {
  unsigned = λ e. cc;
  digits = (numeral (suc n) h).0;
  value = sym (ap (λ (x : ℕ). neg_ℤ (pos x)) (numeral (suc n) h).1);
  fits = f;
}

pub number_spells : (z : ℤ) → FitsSigned w64 z → IsNumber z (signed_decimal z)
number_spells (pos n) f = positive n (omega (arith, ints)) f
number_spells (negsuc n) f = negative n (omega (arith, ints)) f

text_spells : (t : List ℕ) → IsText t → QuotesText t (39 ∷ (doubled t ++ 39 ∷ []))
text_spells t h = record {
  chars = h.chars;
  quoted = record { plain = h.plain; split = ap (λ (x : List ℕ). 39 ∷ (x ++ 39 ∷ [])) (ap doubled h.encoded ∙ doubled_written h.chars) };
  value = h.encoded;
  short = h.short;
}

pub lexeme_spells : (l : Lexeme) → IsProper l → SpellsLexeme l (lexeme_text l)
lexeme_spells (Key k) p = keyword_spells k
lexeme_spells (Named n) p = name_spells n p
lexeme_spells (Number z) p = number_spells z p
lexeme_spells (Text t) p = text_spells t p
lexeme_spells (Sign m) p = refl

-- ---- and has a byte
word_some : (bs : List ℕ) → is_word bs ≡ true → 0 < length bs
word_some [] e = cc
word_some (b ∷ bs) e = omega arith

mark_some : (m : Mark) → 0 < length (mark_text m)
mark_some marks.NotEqual = omega arith
mark_some marks.LessEqual = omega arith
mark_some marks.GreaterEqual = omega arith
mark_some _ = omega arith

pub some_text : (l : Lexeme) → IsProper l → 0 < length (lexeme_text l)
some_text (Key k) p = word_some (text_of k) (keyword_spells k).0
some_text (Named n) p = word_some n (name_word n p)
some_text (Number (pos n)) p = decimal_nonempty n (omega (arith, ints))
some_text (Number (negsuc n)) p = omega arith
some_text (Text t) p = omega arith
some_text (Sign m) p = mark_some m

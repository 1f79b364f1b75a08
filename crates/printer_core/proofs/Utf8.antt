-- What is printed is UTF-8.
use Rattle.std.proofs.Common.{◌≡◌, ℕ, ◌++◌, Bool, true, false, List, [], ◌∷◌, All, refl, sym, subst, ap, ◌∙◌}
use Rattle.std.specs.Prelude.{◌==◌, if◌then◌else◌, slice_index}
use Rattle.std.specs.Char.{encode_utf8, IsScalar}
use Rattle.std.specs.Str.{IsUtf8, is_utf8, chars, all_scalars}
use Rattle.std.specs.Fmt.{signed_decimal}
use Rattle.std.proofs.lemmas.Bool.{and_parts}
use Rattle.std.proofs.lemmas.List.Elements.{All-head, All-tail}
use Rattle.std.proofs.lemmas.Str.{IsUtf8-nil, IsUtf8-append, IsUtf8-encode, IsUtf8-from_ascii, IsUtf8-from_is_utf8}
use Rattle.base_core.specs.Texts.{IsText}
use Rattle.base_core.specs.Words.{text_of}
use Rattle.lexer_core.specs.Lexing.{IsProper, Lexeme, Key, Named, Number, Text, Sign, mark_text}
use Rattle.lexer_core.specs.Text.{written, written_all}
use Rattle.lexer_core.specs.declared.token.Mark.{Mark}
use Rattle.lexer_core.specs.declared.token.Mark.TheVariants as marks
use Rattle.printer_core.specs.declared.spacing.LastToken.{LastToken}
use Rattle.lexer_core.proofs.Numbers.{numeral_ascii}
use Rattle.printer_core.specs.declared.spacing.Spacing.{Spacing}
use Rattle.printer_core.specs.Printing.{doubled, lexeme_text, spaced_text, gap, blank_if, is_parted, as_last}
use Rattle.printer_core.proofs.Doubled.{doubled_written}
use Rattle.printer_core.proofs.Names.{name_word, word_ascii}
use Rattle.printer_core.proofs.Spelling.{keyword_spells, number_spells}

one_written : (c : ℕ) → IsScalar c → (b : Bool) → IsUtf8 (if b then 39 ∷ 39 ∷ [] else encode_utf8 c)
unfolding is_utf8 chars encode_utf8
one_written c h true = IsUtf8-from_is_utf8 (39 ∷ 39 ∷ []) refl
one_written c h false = IsUtf8-encode c h

all_written : (cs : List ℕ) → all_scalars cs ≡ true → IsUtf8 (written_all cs)
all_written [] e = IsUtf8-nil
all_written (c ∷ cs) e =
    let p = and_parts _ (all_scalars cs) e in
    IsUtf8-append (written c) (written_all cs) (one_written c p.0 (c == 39)) (all_written cs p.1)

text_utf8 : (t : List ℕ) → IsText t → IsUtf8 (doubled t)
text_utf8 t h = subst IsUtf8 (sym (ap doubled h.encoded ∙ doubled_written h.chars)) (all_written h.chars h.plain.scalars)

mark_utf8 : (m : Mark) → IsUtf8 (mark_text m)
unfolding is_utf8 chars encode_utf8
mark_utf8 marks.NotEqual = IsUtf8-from_is_utf8 (mark_text marks.NotEqual) refl
mark_utf8 marks.LessEqual = IsUtf8-from_is_utf8 (mark_text marks.LessEqual) refl
mark_utf8 marks.GreaterEqual = IsUtf8-from_is_utf8 (mark_text marks.GreaterEqual) refl
mark_utf8 m = IsUtf8-from_is_utf8 (mark_text m) refl

quote_utf8 : IsUtf8 (39 ∷ [])
unfolding is_utf8 chars encode_utf8
quote_utf8 = IsUtf8-from_is_utf8 (39 ∷ []) refl

lexeme_utf8 : (l : Lexeme) → IsProper l → IsUtf8 (lexeme_text l)
lexeme_utf8 (Key k) p = IsUtf8-from_ascii (text_of k) (word_ascii (text_of k) (keyword_spells k).0)
lexeme_utf8 (Named n) p = IsUtf8-from_ascii n (word_ascii n (name_word n p))
lexeme_utf8 (Number z) p = let s = number_spells z p in IsUtf8-from_ascii (signed_decimal z) (numeral_ascii (signed_decimal z) s.unsigned s.digits)
lexeme_utf8 (Text t) p = IsUtf8-append (39 ∷ []) (doubled t ++ 39 ∷ []) quote_utf8 (IsUtf8-append (doubled t) (39 ∷ []) (text_utf8 t p) quote_utf8)
lexeme_utf8 (Sign m) p = mark_utf8 m

blank_utf8 : (b : Bool) → IsUtf8 (blank_if b)
unfolding is_utf8 chars encode_utf8
blank_utf8 true = IsUtf8-from_is_utf8 (32 ∷ []) refl
blank_utf8 false = IsUtf8-nil

pub spaced_utf8 : (spacing : Spacing) (last : LastToken) (ls : List Lexeme) → All IsProper ls → IsUtf8 (spaced_text spacing last ls)
spaced_utf8 spacing last [] p = IsUtf8-nil
spaced_utf8 spacing last (l ∷ ls) p =
    let text = lexeme_text l in
    let rest = spaced_text spacing (as_last l) ls in
    IsUtf8-append (gap spacing last text) (text ++ rest) (blank_utf8 (is_parted spacing last (slice_index text 0)))
    (IsUtf8-append text rest (lexeme_utf8 l (All-head IsProper l ls p)) (spaced_utf8 spacing (as_last l) ls (All-tail IsProper l ls p)))

-- What is printed has no control character of ASCII, so no line end.
use Rattle.std.proofs.Common.{◌≡◌, ℕ, ℤ, pos, negsuc, suc, ◌+◌, ◌%◌, ◌<◌, ◌≤◌, ◌^◌, Bool, true, false, List, [], ◌∷◌, ◌++◌, All, refl, FitsSigned, w64, arith}
use Rattle.std.specs.Prelude.{◌==◌, if◌then◌else◌, nat_le, slice_index}
use Rattle.std.specs.List.{list_all}
use Rattle.std.specs.Fmt.{decimal, signed_decimal}
use Rattle.std.specs.Char.{is_ascii_alphabetic}
use Rattle.std.proofs.lemmas.Bool.{and_parts}
use Rattle.std.proofs.lemmas.Bool.Decides.{nat_tests}
use Rattle.std.proofs.lemmas.Fmt.{decimal_by_steps}
use Rattle.std.proofs.lemmas.List.Elements.{All-nil, All-cons, All-push, All-append, All-head, All-tail}
use Rattle.base_core.specs.Words.{is_word, is_word_byte, text_of, IsName}
use Rattle.base_core.proofs.Printable.{printable}
use Rattle.lexer_core.specs.Lexing.{IsProper, Lexeme, Key, Named, Number, Text, Sign, mark_text}
use Rattle.lexer_core.specs.declared.token.Mark.{Mark}
use Rattle.lexer_core.specs.declared.token.Mark.TheVariants as marks
use Rattle.printer_core.specs.declared.spacing.LastToken.{LastToken}
use Rattle.printer_core.specs.declared.spacing.Spacing.{Spacing}
use Rattle.printer_core.specs.Printing.{doubled, lexeme_text, spaced_text, gap, blank_if, is_parted, as_last}
use Rattle.printer_core.proofs.Names.{name_word}
use Rattle.printer_core.proofs.Spelling.{keyword_spells}

abbrev pub IsHigh : ℕ → Type 0
IsHigh b = 32 ≤ b

tested : (bytes : List ℕ) → list_all (λ b. nat_le 32 b) bytes ≡ true → All IsHigh bytes
tested [] e = All-nil IsHigh
tested (b ∷ bs) e =
    let p = and_parts (nat_le 32 b) (list_all (λ b. nat_le 32 b) bs) e in
    let first : nat_le 32 b ≡ true = p.0 in
    All-cons IsHigh b bs (grind (arith, nat_tests)) (tested bs p.1)

word_byte_high : (b : ℕ) → is_word_byte b ≡ true → 32 ≤ b
word_byte_high b e = grind (arith, nat_tests)

word_bytes_high : (bytes : List ℕ) → list_all is_word_byte bytes ≡ true → All IsHigh bytes
word_bytes_high [] e = All-nil IsHigh
word_bytes_high (b ∷ bs) e =
    let p = and_parts (is_word_byte b) (list_all is_word_byte bs) e in
    All-cons IsHigh b bs (word_byte_high b p.0) (word_bytes_high bs p.1)

word_high : (word : List ℕ) → is_word word ≡ true → All IsHigh word
word_high word e = word_bytes_high word (and_parts (is_ascii_alphabetic (slice_index word 0)) (list_all is_word_byte word) e).1

pub name_high : (name : List ℕ) → IsName name → All IsHigh name
name_high name n = word_high name (name_word name n)

decimal_high : (n : ℕ) → n < 2 ^ 64 → All IsHigh (decimal n)
decimal_high n h =
    decimal_by_steps (λ n ds. All IsHigh ds) (λ n low. All-cons IsHigh (48 + n) [] (omega arith) (All-nil IsHigh)) (λ n ds high plain. All-push IsHigh ds (48 + n % 10) plain (omega arith)) n h

number_high : (z : ℤ) → FitsSigned w64 z → All IsHigh (signed_decimal z)
number_high (pos n) h = decimal_high n (omega (arith, h.sfits))
number_high (negsuc n) h = All-cons IsHigh 45 (decimal (suc n)) (omega arith) (decimal_high (suc n) (omega (arith, h.sfits)))

quote_high : All IsHigh (39 ∷ [])
quote_high = tested (39 ∷ []) refl

doubled_high : (bytes : List ℕ) → All IsHigh bytes → All IsHigh (doubled bytes)
doubled_high [] h = All-nil IsHigh
doubled_high (b ∷ bs) h = All-append IsHigh (if b == 39 then 39 ∷ 39 ∷ [] else b ∷ []) (doubled bs) (one (b == 39)) (doubled_high bs (All-tail IsHigh b bs h))
  where
    one : (quote : Bool) → All IsHigh (if quote then 39 ∷ 39 ∷ [] else b ∷ [])
    one true = tested (39 ∷ 39 ∷ []) refl
    one false = All-cons IsHigh b [] (All-head IsHigh b bs h) (All-nil IsHigh)

mark_high : (m : Mark) → All IsHigh (mark_text m)
mark_high marks.NotEqual = tested (mark_text marks.NotEqual) refl
mark_high marks.LessEqual = tested (mark_text marks.LessEqual) refl
mark_high marks.GreaterEqual = tested (mark_text marks.GreaterEqual) refl
mark_high m = tested (mark_text m) refl

lexeme_high : (l : Lexeme) → IsProper l → All IsHigh (lexeme_text l)
lexeme_high (Key k) p = word_high (text_of k) (keyword_spells k).0
lexeme_high (Named n) p = name_high n p
lexeme_high (Number z) p = number_high z p
lexeme_high (Text t) p = All-append IsHigh (39 ∷ []) (doubled t ++ 39 ∷ []) quote_high (All-append IsHigh (doubled t) (39 ∷ []) (doubled_high t (printable t p)) quote_high)
lexeme_high (Sign m) p = mark_high m

blank_high : (b : Bool) → All IsHigh (blank_if b)
blank_high true = tested (32 ∷ []) refl
blank_high false = All-nil IsHigh

pub spaced_high : (spacing : Spacing) (last : LastToken) (ls : List Lexeme) → All IsProper ls → All IsHigh (spaced_text spacing last ls)
spaced_high spacing last [] p = All-nil IsHigh
spaced_high spacing last (l ∷ ls) p =
    let text = lexeme_text l in
    let rest = spaced_text spacing (as_last l) ls in
    All-append IsHigh (gap spacing last text) (text ++ rest) (blank_high (is_parted spacing last (slice_index text 0)))
    (All-append IsHigh text rest (lexeme_high l (All-head IsProper l ls p)) (spaced_high spacing (as_last l) ls (All-tail IsProper l ls p)))

-- Quotes and blanks within one token.
use mathlib.Core.Logic.{⊎_elim}
use Rattle.std.proofs.Common.{◌≡◌, ◌⊎◌, ℕ, ℤ, zero, suc, Bool, true, false, not, ◌&&◌, cond, List, [], ◌∷◌, ◌++◌, take, drop, get_or, refl, sym, ◌∙◌, ap, subst, arith, append_assoc, inl, inr}
use Rattle.std.specs.Prelude.{◌==◌, if◌then◌else◌}
use Rattle.std.specs.Int.{IsInRange}
use Rattle.std.specs.List.{list_all}
use Rattle.std.specs.Char.{is_ascii_alphabetic}
use Rattle.std.specs.Str.Parse.{AllDigits, without_leading_sign, without_leading_plus, starts_with_minus}
use Rattle.std.proofs.lemmas.Bool.{and_parts, and_from}
use Rattle.std.proofs.lemmas.Bool.Decides.{nat_tests}
use Rattle.std.proofs.lemmas.Str.Parse.{digit_from_value}
use Rattle.base_core.specs.Words.{is_word, is_word_byte}
use Rattle.lexer_core.specs.declared.token.Mark.{Mark}
use Rattle.lexer_core.specs.declared.token.Mark.TheVariants as marks
use Rattle.lexer_core.specs.Lexing.{Lexeme, Key, Named, Number, Text, Sign, SpellsLexeme, QuotesText, IsNumber, mark_text}
use Rattle.lexer_core.proofs.Numbers.{equal, sign_drop}
use Rattle.printer_core.specs.Printing.{doubled, lexeme_text}
use Rattle.printer_core.proofs.Doubled.{doubled_written}
use Rattle.parameters_core.specs.Statements.{open_behind}
use Rattle.parameters_core.proofs.Quotes.{twice, turns_not}

-- ---- bytes that are neither quotes nor blanks
abbrev is_solid : ℕ → Bool
is_solid b = not (b == 39) && not (b == 32)

word_byte_solid : (b : ℕ) → is_word_byte b ≡ true → is_solid b ≡ true
word_byte_solid b e = grind (arith, nat_tests)

solid_digit : (b : ℕ) → IsInRange 48 57 b → is_solid b ≡ true
solid_digit b h = let low = h.0 in let high = h.1 in grind (arith, nat_tests)

solid_other : (b : ℕ) → is_solid b ≡ true → (b == 39) ≡ false
solid_other b e = grind (arith, nat_tests)

solid_filled : (b : ℕ) → is_solid b ≡ true → b ≡ 32 → ⊥
solid_filled b e f = let t : is_solid 32 ≡ true = ap is_solid (sym f) ∙ e in cc t

word_bytes : (bytes : List ℕ) → list_all is_word_byte bytes ≡ true → list_all is_solid bytes ≡ true
word_bytes [] e = refl
word_bytes (b ∷ bs) e =
    let p = and_parts (is_word_byte b) (list_all is_word_byte bs) e in
    and_from (is_solid b) (list_all is_solid bs) (word_byte_solid b p.0) (word_bytes bs p.1)

word_solid : (bytes : List ℕ) → is_word bytes ≡ true → list_all is_solid bytes ≡ true
word_solid bytes e = word_bytes bytes (and_parts (is_ascii_alphabetic (get_or bytes 0 0)) (list_all is_word_byte bytes) e).1

digits_solid : (ds : List ℕ) → AllDigits 10 ds → list_all is_solid ds ≡ true
digits_solid [] h = refl
digits_solid (d ∷ ds) h = and_from (is_solid d) (list_all is_solid ds) (solid_digit d (digit_from_value d h.0)) (digits_solid ds h.1)

behind_sign : (bytes : List ℕ) → list_all is_solid (drop 1 bytes) ≡ true → starts_with_minus bytes ≡ true → list_all is_solid bytes ≡ true
behind_sign [] h e = refl
behind_sign (b ∷ bs) h e = and_from (is_solid b) (list_all is_solid bs) (ap is_solid (equal b 45 e)) h

number_solid : (z : ℤ) (bytes : List ℕ) → IsNumber z bytes → (minus : Bool) → starts_with_minus bytes ≡ minus → list_all is_solid bytes ≡ true
number_solid z bytes p true e =
    let rest : without_leading_sign bytes ≡ drop 1 bytes = ap (λ (c : Bool). cond c (drop 1 bytes) (without_leading_plus bytes)) e in
    behind_sign bytes (digits_solid (drop 1 bytes) (subst (AllDigits 10) rest p.digits.1)) e
number_solid z bytes p false e =
    let bare : without_leading_sign bytes ≡ bytes = sign_drop bytes p.unsigned ∙ ap (λ (c : Bool). drop (if c then 1 else 0) bytes) e in
    digits_solid bytes (subst (AllDigits 10) bare p.digits.1)

mark_solid : (m : Mark) → list_all is_solid (mark_text m) ≡ true
mark_solid marks.NotEqual = refl
mark_solid marks.LessEqual = refl
mark_solid marks.GreaterEqual = refl
mark_solid _ = refl

text_is : (t bytes : List ℕ) → QuotesText t bytes → lexeme_text (Text t) ≡ bytes
text_is t bytes s = ap (λ (x : List ℕ). 39 ∷ (x ++ 39 ∷ [])) (ap doubled s.value ∙ doubled_written s.chars) ∙ sym s.quoted.split

-- a token is a text, or has neither
pub solid_or_text : (l : Lexeme) (bytes : List ℕ) → SpellsLexeme l bytes → (list_all is_solid bytes ≡ true) ⊎ ((t : List ℕ) × (bytes ≡ lexeme_text (Text t)))
solid_or_text (Key k) bytes s = inl (word_solid bytes s.0)
solid_or_text (Named n) bytes s = inl (word_solid bytes s.0)
solid_or_text (Number z) bytes s = inl (number_solid z bytes s (starts_with_minus bytes) refl)
solid_or_text (Text t) bytes s = inr (t, sym (text_is t bytes s))
solid_or_text (Sign m) bytes s = inl (ap (list_all is_solid) s ∙ mark_solid m)

-- ---- neither opens a text
pub solid_closed : (bytes : List ℕ) (q : Bool) → list_all is_solid bytes ≡ true → open_behind q bytes ≡ q
solid_closed [] q e = refl
solid_closed (b ∷ bs) q e =
    let p = and_parts (is_solid b) (list_all is_solid bs) e in
    ap (λ (x : Bool). open_behind x bs) (turns_not q b (solid_other b p.0)) ∙ solid_closed bs q p.1

pub solid_no_blank : (bytes : List ℕ) (k : ℕ) → list_all is_solid bytes ≡ true → get_or bytes k 0 ≡ 32 → ⊥
solid_no_blank [] k e f = omega (arith, f)
solid_no_blank (b ∷ bs) zero e f = solid_filled b (and_parts (is_solid b) (list_all is_solid bs) e).0 f
solid_no_blank (b ∷ bs) (suc k) e f = solid_no_blank bs k (and_parts (is_solid b) (list_all is_solid bs) e).1 f

-- ---- the inside of a quoted text, and its closing quote
abbrev one_doubled : Bool → ℕ → List ℕ
one_doubled quote b = if quote then 39 ∷ 39 ∷ [] else b ∷ []

abbrev pub inside_of : List ℕ → List ℕ
inside_of [] = 39 ∷ []
inside_of (b ∷ t) = one_doubled (b == 39) b ++ inside_of t

inside_is : (t : List ℕ) → doubled t ++ 39 ∷ [] ≡ inside_of t
inside_is [] = refl
inside_is (b ∷ t) = append_assoc (one_doubled (b == 39) b) (doubled t) (39 ∷ []) ∙ ap (λ (x : List ℕ). one_doubled (b == 39) b ++ x) (inside_is t)

pub text_inside : (t : List ℕ) → lexeme_text (Text t) ≡ 39 ∷ inside_of t
text_inside t = ap (λ (x : List ℕ). 39 ∷ x) (inside_is t)

-- before a blank in it each quote has its twin
even_by : (b : ℕ) (rest : List ℕ) (q quote : Bool) (k : ℕ) → (b == 39) ≡ quote → ((p : Bool) (i : ℕ) → get_or rest i 0 ≡ 32 → open_behind p (take i rest) ≡ p) → get_or (one_doubled quote b ++ rest) k 0 ≡ 32 → open_behind q (take k (one_doubled quote b ++ rest)) ≡ q
even_by b rest q true zero e h f = absurd (omega (arith, f))
even_by b rest q true (suc zero) e h f = absurd (omega (arith, f))
even_by b rest q true (suc (suc k)) e h f = h (not (not q)) k f ∙ twice q
even_by b rest q false zero e h f = refl
even_by b rest q false (suc k) e h f = ap (λ (x : Bool). open_behind x (take k rest)) (turns_not q b e) ∙ h q k f

pub even_before : (t : List ℕ) (q : Bool) (k : ℕ) → get_or (inside_of t) k 0 ≡ 32 → open_behind q (take k (inside_of t)) ≡ q
even_before [] q zero f = absurd (omega (arith, f))
even_before [] q (suc k) f = absurd (omega (arith, f))
even_before (b ∷ t) q k f = even_by b (inside_of t) q (b == 39) k refl (λ p i g. even_before t p i g) f

-- and the closing one closes it
closed_by : (b : ℕ) (rest : List ℕ) (q quote : Bool) → (b == 39) ≡ quote → ((p : Bool) → open_behind p rest ≡ not p) → open_behind q (one_doubled quote b ++ rest) ≡ not q
closed_by b rest q true e h = h (not (not q)) ∙ twice (not q)
closed_by b rest q false e h = ap (λ (x : Bool). open_behind x rest) (turns_not q b e) ∙ h q

inside_closed : (t : List ℕ) (q : Bool) → open_behind q (inside_of t) ≡ not q
inside_closed [] q = refl
inside_closed (b ∷ t) q = closed_by b (inside_of t) q (b == 39) refl (λ p. inside_closed t p)

-- no token leaves a text open
pub token_closed : (l : Lexeme) (bytes : List ℕ) → SpellsLexeme l bytes → open_behind false bytes ≡ false
token_closed l bytes s = ⊎_elim
    (λ solid. solid_closed bytes false solid)
    (λ text. ap (open_behind false) (text.1 ∙ text_inside text.0) ∙ inside_closed text.0 true)
    (solid_or_text l bytes s)

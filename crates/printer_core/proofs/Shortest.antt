-- No line is shorter than the minified text of what it says.
use Rattle.std.proofs.Common.{◌≡◌, ℕ, ℤ, pos, negsuc, zero, suc, ◌+◌, ◌<◌, ◌≤◌, ◌^◌, Bool, true, false, ◌||◌, cond, List, [], ◌∷◌, ◌++◌, length, take, drop, Option, Some, None, ap, sym, subst, ◌∙◌, refl, length-append, length-drop, arith, ◌⊎◌, inl, inr}
use Rattle.std.specs.Prelude.{◌==◌, if◌then◌else◌, slice_index, neg_ℤ}
use Rattle.std.specs.List.{find, list_all}
use Rattle.std.specs.Fmt.{decimal}
use Rattle.std.specs.Char.{to_ascii_lowercase, is_ascii_alphabetic}
use Rattle.std.specs.Str.Parse.{IsNumeral, digits_value, without_leading_sign, without_leading_plus, starts_with_minus}
use Rattle.std.proofs.lemmas.Bool.{and_parts}
use Rattle.std.proofs.lemmas.Bool.Decides.{nat_tests}
use Rattle.std.proofs.lemmas.Fmt.{length-decimal-le}
use Rattle.std.proofs.lemmas.Int.{ints}
use Rattle.std.proofs.lemmas.Int.Digits.{digits_value-lt}
use Rattle.std.proofs.lemmas.Str.Parse.{digit_at}
use Rattle.std.proofs.lemmas.Slice.Eq.{bytes_eq-Decides}
use Rattle.std.proofs.lemmas.List.{length-map, length-take-le, get_or-drop}
use Rattle.std.proofs.lemmas.List.Elements.{All-pop}
use Rattle.base_core.specs.Words.{is_word, is_word_byte, is_name, is_spelled_by, text_of, folded, all_keywords, keyword_of, name_of}
use Rattle.base_core.specs.declared.keyword.Keyword.{Keyword}
use Rattle.lexer_core.specs.declared.token.Mark.TheVariants as marks
use Rattle.lexer_core.specs.declared.token.Token as tokens
use Rattle.printer_core.specs.declared.spacing.LastToken.{LastToken}
use Rattle.printer_core.specs.declared.spacing.LastToken.TheVariants as lasts
use Rattle.lexer_core.specs.Lexing.{IsProper, Lexeme, Key, Named, Number, Text, Sign, SpellsLexeme, BeginsLexeme, Lexed, start, blank, token, IsNumber, goes_on}
use Rattle.lexer_core.proofs.Class.{first_of_piece}
use Rattle.lexer_core.proofs.Lines.{first_is}
use Rattle.lexer_core.proofs.Numbers.{equal, sign_drop}
use Rattle.lexer_core.proofs.Proper.{proper_lexed}
use Rattle.reader_core.specs.declared.statement.Statement.{Statement}
use Rattle.reader_core.specs.Saying.{statement_says}
use Rattle.reader_core.specs.Language.{SaysStatement, Spells}
use Rattle.printer_core.specs.declared.spacing.Spacing.TheVariants as spacings
use Rattle.printer_core.specs.Printing.{spaced_text, last_behind, gap, blank_if, lexeme_text, runs_on, at_front, doubled, minified}
use Rattle.printer_core.proofs.Back.{runs_on_is}
use Rattle.printer_core.proofs.Doubled.{doubled_written}
use Rattle.printer_core.proofs.Names.{name_word}
use Rattle.printer_core.proofs.Spelling.{keyword_spells, first_digit}
use Rattle.printer_core.proofs.Writing.{spaced-append, last-append}

-- ---- words have as many bytes in any case
module _ (word : List ℕ) (k : Keyword) where
  found_by : (j : Keyword) (b : Bool) (rest : Option Keyword) → is_spelled_by word j ≡ b → cond b (Some j) rest ≡ Some k → (rest ≡ Some k → is_spelled_by word k ≡ true) → is_spelled_by word k ≡ true
  found_by j true rest e f more = let same : j ≡ k = cc f in ap (is_spelled_by word) (sym same) ∙ e
  found_by j false rest e f more = more f

  found : (ks : List Keyword) → find (is_spelled_by word) ks ≡ Some k → is_spelled_by word k ≡ true
  found [] e = cc e
  found (j ∷ js) e = found_by j (is_spelled_by word j) (find (is_spelled_by word) js) refl e (found js)

  keyword_len : keyword_of word ≡ Some k → length (text_of k) ≡ length word
  unfolding keyword_of
  keyword_len e =
      let same : folded (text_of k) ≡ folded word = (bytes_eq-Decides (folded (text_of k)) (folded word)).0 (found all_keywords e) in
      sym (length-map (text_of k) to_ascii_lowercase) ∙ ap length same ∙ length-map word to_ascii_lowercase

named_by : (b : Bool) (w n : List ℕ) → (if b then Some w else None) ≡ Some n → w ≡ n
named_by true w n e = cc e
named_by false w n e = cc e

name_len : (word n : List ℕ) → name_of word ≡ Some n → length n ≡ length word
name_len word n e = sym (ap length (named_by (is_name word) (folded word) n e)) ∙ length-map word to_ascii_lowercase

-- ---- numbers have no leading zeros
decimal_len : (ds : List ℕ) (n : ℕ) → IsNumeral 10 ds → digits_value 10 ds ≡ n → n < 2 ^ 64 → length (decimal n) ≤ length ds
decimal_len ds n h e k = length-decimal-le (length ds) n h.0 (subst (λ (v : ℕ). v < 10 ^ length ds) e (digits_value-lt 10 ds h.1)) k

zero_only : (m n : ℕ) → pos n ≡ neg_ℤ (pos m) → m ≡ n
zero_only zero n e = cc e
zero_only (suc m) n e = cc e

one_less : (m n : ℕ) → negsuc n ≡ neg_ℤ (pos m) → m ≡ suc n
one_less zero n e = cc e
one_less (suc m) n e = let same : n ≡ m = cc e in ap suc (sym same)

module _ (z : ℤ) (bytes : List ℕ) (p : IsNumber z bytes) where
  value_by : (b : Bool) → starts_with_minus bytes ≡ b → z ≡ cond b (neg_ℤ (pos (digits_value 10 (without_leading_sign bytes)))) (pos (digits_value 10 (without_leading_sign bytes)))
  value_by b e = p.value ∙ ap (λ (c : Bool). cond c (neg_ℤ (pos (digits_value 10 (without_leading_sign bytes)))) (pos (digits_value 10 (without_leading_sign bytes)))) e

  -- behind a sign
  signed_len : starts_with_minus bytes ≡ true → length (without_leading_sign bytes) + 1 ≡ length bytes
  signed_len e =
      let rest : without_leading_sign bytes ≡ drop 1 bytes = ap (λ (c : Bool). cond c (drop 1 bytes) (without_leading_plus bytes)) e in
      omega (arith, ap length rest, length-drop 1 bytes, p.digits.0)

  -- with none
  bare : starts_with_minus bytes ≡ false → without_leading_sign bytes ≡ bytes
  bare e = sign_drop bytes p.unsigned ∙ ap (λ (c : Bool). drop (if c then 1 else 0) bytes) e

-- ---- what a token goes on with
word_first : (w : List ℕ) → is_word w ≡ true → is_word_byte (slice_index w 0) ≡ true
word_first [] e = cc e
word_first (b ∷ bs) e = (and_parts (is_word_byte b) (list_all is_word_byte bs) ((and_parts (is_ascii_alphabetic b) (list_all is_word_byte (b ∷ bs)) e).1)).0

digit_in_word : (b : ℕ) → 48 ≤ b → b ≤ 57 → is_word_byte b ≡ true
digit_in_word b h k = grind (arith, nat_tests)

no_quote : (b : ℕ) → is_word_byte b ≡ true → (b == 39) ≡ false
no_quote b e = grind (arith, nat_tests)

no_equal : (b : ℕ) → is_word_byte b ≡ true → (b == 61) ≡ false
no_equal b e = grind (arith, nat_tests)

no_greater : (b : ℕ) → is_word_byte b ≡ true → (b == 62) ≡ false
no_greater b e = grind (arith, nat_tests)

or_none : {x y : Bool} → x ≡ false → y ≡ false → (x || y) ≡ false
or_none {x} {y} e f = ap (λ (z : Bool). z || y) e ∙ f

-- letters, digits and `_` are all one to it
alike : (x : LastToken) (a b : ℕ) → is_word_byte a ≡ true → is_word_byte b ≡ true → runs_on x a ≡ runs_on x b
alike lasts.Word a b e f = e ∙ sym f
alike lasts.Quoted a b e f = no_quote a e ∙ sym (no_quote b f)
alike lasts.Less a b e f = or_none (no_equal a e) (no_greater a e) ∙ sym (or_none (no_equal b f) (no_greater b f))
alike lasts.Greater a b e f = no_equal a e ∙ sym (no_equal b f)
alike _ a b e f = refl

-- ---- a token's text, and what has to stand before it
abbrev needed : LastToken → List ℕ → ℕ
needed x text = length (gap spacings.Minified x text) + length text

blank_len : (b : Bool) → length (blank_if b) ≤ 1
blank_len true = omega arith
blank_len false = omega arith

at_most_one : (x : LastToken) (text : List ℕ) → needed x text ≤ 1 + length text
at_most_one x text = omega (arith, blank_len (runs_on x (slice_index text 0)))

module _ (x : LastToken) (bytes : List ℕ) (stops : runs_on x (slice_index bytes 0) ≡ false) where
  touching : (text : List ℕ) → runs_on x (slice_index text 0) ≡ runs_on x (slice_index bytes 0) → length text ≤ length bytes → needed x text ≤ length bytes
  touching text e h =
      let none : length (gap spacings.Minified x text) ≡ 0 = ap (λ (b : Bool). length (blank_if b)) (e ∙ stops) in
      omega arith

  word_touching : (text : List ℕ) → is_word text ≡ true → is_word bytes ≡ true → length text ≡ length bytes → needed x text ≤ length bytes
  word_touching text v w e = touching text (alike x (slice_index text 0) (slice_index bytes 0) (word_first text v) (word_first bytes w)) (omega arith)

  number_touching : (z : ℤ) → IsNumber z bytes → (b : Bool) → starts_with_minus bytes ≡ b → needed x (lexeme_text (Number z)) ≤ length bytes
  number_touching (pos n) p true e =
      let same = zero_only (digits_value 10 (without_leading_sign bytes)) n (value_by (pos n) bytes p true e) in
      let f = p.fits in
      omega (arith, at_most_one x (decimal n), decimal_len (without_leading_sign bytes) n p.digits same (omega (arith, ints)), signed_len (pos n) bytes p e)
  number_touching (negsuc n) p true e =
      let same = one_less (digits_value 10 (without_leading_sign bytes)) n (value_by (negsuc n) bytes p true e) in
      let f = p.fits in
      let first : 45 ≡ slice_index bytes 0 = sym (equal (slice_index bytes 0) 45 e) in
      touching (45 ∷ decimal (suc n)) (ap (runs_on x) first)
      (omega (arith, decimal_len (without_leading_sign bytes) (suc n) p.digits same (omega (arith, ints)), signed_len (negsuc n) bytes p e))
  number_touching (pos n) p false e =
      let same : pos n ≡ pos (digits_value 10 (without_leading_sign bytes)) = value_by (pos n) bytes p false e in
      let value : digits_value 10 (without_leading_sign bytes) ≡ n = cc in
      let f = p.fits in
      let small : n < 2 ^ 64 = omega (arith, ints) in
      let is = bare (pos n) bytes p e in
      let numeral : IsNumeral 10 bytes = subst (IsNumeral 10) is p.digits in
      let here = digit_at bytes 0 numeral.1 numeral.0 in
      let there = first_digit n small in
      touching (decimal n)
      (alike x (slice_index (decimal n) 0) (slice_index bytes 0) (digit_in_word (slice_index (decimal n) 0) there.0 there.1) (digit_in_word (slice_index bytes 0) here.0 here.1))
      (decimal_len bytes n numeral (ap (digits_value 10) (sym is) ∙ value) small)
  number_touching (negsuc n) p false e = let same = value_by (negsuc n) bytes p false e in cc same

  -- a slice that the token before does not go on with
  tight : (l : Lexeme) → IsProper l → SpellsLexeme l bytes → needed x (lexeme_text l) ≤ length bytes
  tight (Key k) p s = word_touching (text_of k) (keyword_spells k).0 s.0 (keyword_len bytes k s.1)
  tight (Named n) p s = word_touching n (name_word n p) s.0 (name_len bytes n s.1)
  tight (Number z) p s = number_touching z s (starts_with_minus bytes) refl
  tight (Text t) p s =
      let same : lexeme_text (Text t) ≡ bytes = ap (λ (x : List ℕ). 39 ∷ (x ++ 39 ∷ [])) (ap doubled s.value ∙ doubled_written s.chars) ∙ sym s.quoted.split in
      touching (lexeme_text (Text t)) (ap (λ (b : List ℕ). runs_on x (slice_index b 0)) same) (omega (arith, ap length same))
  tight (Sign m) p s = touching (lexeme_text (Sign m)) (ap (λ (b : List ℕ). runs_on x (slice_index b 0)) (sym s)) (omega (arith, ap length s))

-- any slice
loose : (l : Lexeme) (bytes : List ℕ) → IsProper l → SpellsLexeme l bytes → length (lexeme_text l) ≤ length bytes
loose l bytes p s = omega (arith, tight at_front bytes refl l p s)

-- ---- along the line
abbrev text_so_far : List Lexeme → List ℕ
text_so_far said = spaced_text spacings.Minified at_front said

-- either a byte is to spare, or the last token does not go on
abbrev IsFar : List ℕ → ℕ → List Lexeme → Type 0
IsFar line n said = (length (text_so_far said) + 1 ≤ n) ⊎ ((length (text_so_far said) ≤ n) × (runs_on (last_behind at_front said) (slice_index line n) ≡ false))

near : (line : List ℕ) (n : ℕ) (said : List Lexeme) → IsFar line n said → length (text_so_far said) ≤ n
near line n said (inl h) = omega arith
near line n said (inr h) = h.0

longer : (said : List Lexeme) (l : Lexeme) → length (text_so_far (said ++ l ∷ [])) ≡ length (text_so_far said) + needed (last_behind at_front said) (lexeme_text l)
longer said l =
    let x = last_behind at_front said in
    let space = gap spacings.Minified x (lexeme_text l) in
    omega (arith, ap length (spaced-append spacings.Minified at_front said (l ∷ [])), length-append (text_so_far said) (space ++ (lexeme_text l ++ [])), length-append space (lexeme_text l ++ []), length-append (lexeme_text l) [])

module _ (line : List ℕ) (n k : ℕ) (said : List Lexeme) (l : Lexeme) (p : IsProper l) (b : BeginsLexeme (drop n line) l k) where
  one_token : IsFar line n said → length (text_so_far said) + needed (last_behind at_front said) (lexeme_text l) ≤ n + k
  one_token (inl h) =
      let t : length (lexeme_text l) ≤ length (take k (drop n line)) = loose l (take k (drop n line)) p b.spelled in
      omega (arith, t, length-take-le k (drop n line) b.within, at_most_one (last_behind at_front said) (lexeme_text l))
  one_token (inr h) =
      let x = last_behind at_front said in
      let stops : runs_on x (slice_index (take k (drop n line)) 0) ≡ false = ap (runs_on x) (first_of_piece (drop n line) l k b) ∙ first_is line n (runs_on x) false h.1 in
      let t : needed x (lexeme_text l) ≤ length (take k (drop n line)) = tight x (take k (drop n line)) stops l p b.spelled in
      omega (arith, t, h.0, length-take-le k (drop n line) b.within)

  stopped : runs_on (last_behind at_front (said ++ l ∷ [])) (slice_index line (n + k)) ≡ false
  stopped =
      ap (λ (x : LastToken). runs_on x (slice_index line (n + k))) (last-append at_front said (l ∷ []))
      ∙ runs_on_is l (slice_index line (n + k))
      ∙ ap (goes_on l) (sym (get_or-drop n line k 0))
      ∙ b.ends

far : (line : List ℕ) (n : ℕ) (ts : List tokens.Token) (said : List Lexeme) → Lexed line n ts said → IsFar line n said
far line _ _ _ start = inr (omega arith, refl)
far line _ _ _ (blank {n} {ts} {ls} m h b) = inl (omega (arith, near line n ls (far line n ts ls m)))
far line _ _ _ (token {n} {k} {ts} {ls} {l} m b) =
    let p = (All-pop IsProper (ls ++ l ∷ []) ls (Some l) refl (proper_lexed line (n + k) _ (ls ++ l ∷ []) (token m b))).1 in
    inr (omega (arith, longer ls l, one_token line n k ls l p b (far line n ts ls m)), stopped line n k ls l p b)

-- ---- of a statement
no_less : (said : List Lexeme) (s : Statement) → SaysStatement said s → length (minified s) ≤ length (text_so_far said)
no_less said s (inl e) = omega (arith, ap (λ (ls : List Lexeme). length (text_so_far ls)) e)
no_less said s (inr e) = omega (arith, ap (λ (ls : List Lexeme). length (text_so_far ls)) e, longer (statement_says s) (Sign marks.Semicolon))

pub no_shorter : (line : List ℕ) (s : Statement) → Spells line s → length (minified s) ≤ length line
no_shorter line s p = omega (arith, no_less p.said s p.statement_of, near line (length line) p.said (far line (length line) p.says.tokens_of p.said p.says.lexed))

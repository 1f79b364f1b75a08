-- What stands first is one token.
use Rattle.std.proofs.Common.{◌≡◌, ℕ, ℤ, zero, suc, ◌+◌, ◌<◌, ◌≤◌, Bool, true, false, ◌&&◌, ◌||◌, List, [], ◌∷◌, ◌++◌, Option, Some, None, length, take, drop, get_or, refl, sym, ◌∙◌, ap, subst, arith, append_assoc, length-drop}
use Rattle.std.proofs.lemmas.List.{get_or-take, get_or-drop, length-take-le, take-append-drop}
use Rattle.std.proofs.lemmas.List.Sums.{prefix_len_is}
use Rattle.std.proofs.lemmas.Bool.{and_parts}
use Rattle.std.specs.Prelude.{◌==◌, if◌then◌else◌, not, is_some, nat_le}
use Rattle.std.specs.List.{prefix_len, list_all}
use Rattle.std.specs.Char.{is_ascii_alphabetic}
use Rattle.std.specs.Str.{encode_utf8_all}
use Rattle.std.specs.Str.Parse.{signed_digits_value}
use Rattle.base_core.specs.Words.{is_word, is_word_byte, keyword_of, name_of, folded}
use Rattle.base_core.specs.declared.keyword.Keyword.{Keyword}
use Rattle.lexer_core.specs.declared.token.Mark.{Mark}
use Rattle.lexer_core.specs.declared.token.Mark.TheVariants.{Open, Close, Comma, Star, Semicolon, Equal, NotEqual, Less, LessEqual, Greater, GreaterEqual}
use Rattle.lexer_core.specs.Text.{BeginsText, written_all}
use Rattle.lexer_core.specs.Lexing.{Lexeme, Key, Named, Number, Text, Sign, BeginsLexeme, mark_text}
use Rattle.lexer_core.proofs.Class.{class_of, begins_class, first_of_piece, number_is}
use Rattle.lexer_core.proofs.OneText.{IsStuck, stuck_quote, one_text}

each_passes : (p : ℕ → Bool) (xs : List ℕ) (k : ℕ) → list_all p xs ≡ true → k < length xs → p (get_or xs k 0) ≡ true
each_passes p [] k e h = absurd (omega (arith, h))
each_passes p (x ∷ xs) zero e h = (and_parts (p x) (list_all p xs) e).0
each_passes p (x ∷ xs) (suc k) e h = each_passes p xs k ((and_parts (p x) (list_all p xs) e).1) (omega arith)

-- a word ends where its bytes do
pub word_len : (bytes : List ℕ) (n : ℕ) → n ≤ length bytes → is_word (take n bytes) ≡ true → is_word_byte (get_or bytes n 0) ≡ false → prefix_len is_word_byte bytes ≡ n
word_len bytes n within w ends =
    let len : length (take n bytes) ≡ n = length-take-le n bytes within in
    let all : list_all is_word_byte (take n bytes) ≡ true = (and_parts (is_ascii_alphabetic (get_or (take n bytes) 0 0)) (list_all is_word_byte (take n bytes)) w).1 in
    prefix_len_is is_word_byte bytes n 0 within (λ k h. ap is_word_byte (sym (get_or-take n bytes k 0 h)) ∙ each_passes is_word_byte (take n bytes) k all (omega arith)) (λ h. ends)

quote_no : (b : ℕ) → (b == 39) ≡ false → b ≡ 39 → ⊥
quote_no b e is = let clash : true ≡ false = sym (ap (λ (x : ℕ). x == 39) is) ∙ e in cc clash

pub text_here : (bytes t : List ℕ) (n : ℕ) (b : BeginsLexeme bytes (Text t) n) → BeginsText bytes b.spelled.chars (39 ∷ drop n bytes)
text_here bytes t n b = record {
  plain = b.spelled.quoted.plain;
  split = sym (take-append-drop n bytes) ∙ (ap (λ (r : List ℕ). r ++ drop n bytes) b.spelled.quoted.split ∙ ap (λ (r : List ℕ). 39 ∷ r) (append_assoc (written_all b.spelled.chars) (39 ∷ []) (drop n bytes)));
}

pub text_stops : (bytes t : List ℕ) (n : ℕ) → BeginsLexeme bytes (Text t) n → IsStuck (39 ∷ drop n bytes)
text_stops bytes t n b = stuck_quote (drop n bytes) (λ e. quote_no (get_or bytes n 0) b.ends (sym (get_or-drop n bytes 0 0 ∙ ap (λ (k : ℕ). get_or bytes k 0) (let z : n + 0 ≡ n = omega arith in z)) ∙ e))

-- one text stands first
pub text_once : (bytes t u : List ℕ) (n k : ℕ) → BeginsLexeme bytes (Text t) n → BeginsLexeme bytes (Text u) k → (t ≡ u) × (n ≡ k)
text_once bytes t u n k a b =
    let e = one_text bytes a.spelled.chars b.spelled.chars (39 ∷ drop n bytes) (39 ∷ drop k bytes) (text_here bytes t n a) (text_here bytes u k b) (text_stops bytes t n a) (text_stops bytes u k b) in (
      a.spelled.value ∙ (ap encode_utf8_all e.0 ∙ sym b.spelled.value),
      omega (arith, ap length e.1, length-drop n bytes, length-drop k bytes, a.within, b.within),
    )

-- the mark that two bytes begin
abbrev less_at : Bool → Bool → Mark
less_at equal greater = if greater then NotEqual else (if equal then LessEqual else Less)

abbrev mark_at : ℕ → ℕ → Mark
mark_at a b = if a == 40 then Open else (if a == 41 then Close else (if a == 44 then Comma else (if a == 42 then Star else (if a == 59 then Semicolon else (if a == 61 then Equal else (if a == 60 then less_at (b == 61) (b == 62) else (if b == 61 then GreaterEqual else Greater)))))))

less_alone : (x y : Bool) → (x || y) ≡ false → less_at x y ≡ Less
less_alone false false e = refl
less_alone true y e = cc
less_alone false true e = cc

greater_alone : (x : Bool) → x ≡ false → (if x then GreaterEqual else Greater) ≡ Greater
greater_alone false e = refl
greater_alone true e = cc

module _ (bytes : List ℕ) (n : ℕ) where
  mark_len : (m : Mark) → BeginsLexeme bytes (Sign m) n → n ≡ length (mark_text m)
  mark_len m b = sym (length-take-le n bytes b.within) ∙ ap length b.spelled

  first_is : (m : Mark) → BeginsLexeme bytes (Sign m) n → get_or bytes 0 0 ≡ get_or (mark_text m) 0 0
  first_is m b = sym (first_of_piece bytes (Sign m) n b) ∙ ap (λ (r : List ℕ). get_or r 0 0) b.spelled

  second_is : (m : Mark) → BeginsLexeme bytes (Sign m) n → 1 < n → get_or bytes 1 0 ≡ get_or (mark_text m) 1 0
  second_is m b h = sym (get_or-take n bytes 1 0 h) ∙ ap (λ (r : List ℕ). get_or r 1 0) b.spelled

  simple : (m : Mark) → BeginsLexeme bytes (Sign m) n → mark_at (get_or bytes 0 0) (get_or bytes 1 0) ≡ mark_at (get_or (mark_text m) 0 0) (get_or bytes 1 0)
  simple m b = ap (λ (a : ℕ). mark_at a (get_or bytes 1 0)) (first_is m b)

  double : (m : Mark) → BeginsLexeme bytes (Sign m) n → 1 < n → mark_at (get_or bytes 0 0) (get_or bytes 1 0) ≡ mark_at (get_or (mark_text m) 0 0) (get_or (mark_text m) 1 0)
  double m b h = simple m b ∙ ap (λ (a : ℕ). mark_at (get_or (mark_text m) 0 0) a) (second_is m b h)

  mark_is : (m : Mark) → BeginsLexeme bytes (Sign m) n → mark_at (get_or bytes 0 0) (get_or bytes 1 0) ≡ m
  mark_is Open b = simple Open b
  mark_is Close b = simple Close b
  mark_is Comma b = simple Comma b
  mark_is Star b = simple Star b
  mark_is Semicolon b = simple Semicolon b
  mark_is Equal b = simple Equal b
  mark_is NotEqual b = double NotEqual b (let e = mark_len NotEqual b in omega arith)
  mark_is Less b = simple Less b ∙ less_alone (get_or bytes 1 0 == 61) (get_or bytes 1 0 == 62) (subst (λ (k : ℕ). ((get_or bytes k 0 == 61) || (get_or bytes k 0 == 62)) ≡ false) (mark_len Less b) b.ends)
  mark_is LessEqual b = double LessEqual b (let e = mark_len LessEqual b in omega arith)
  mark_is Greater b = simple Greater b ∙ greater_alone (get_or bytes 1 0 == 61) (subst (λ (k : ℕ). (get_or bytes k 0 == 61) ≡ false) (mark_len Greater b) b.ends)
  mark_is GreaterEqual b = double GreaterEqual b (let e = mark_len GreaterEqual b in omega arith)

-- one mark stands first
pub mark_once : (bytes : List ℕ) (m o : Mark) (n k : ℕ) → BeginsLexeme bytes (Sign m) n → BeginsLexeme bytes (Sign o) k → (m ≡ o) × (n ≡ k)
mark_once bytes m o n k a b =
    let same : m ≡ o = sym (mark_is bytes n m a) ∙ mark_is bytes k o b in
    (same, mark_len bytes n m a ∙ (ap (λ (x : Mark). length (mark_text x)) same ∙ sym (mark_len bytes k o b)))

-- no name is a keyword
named_by : (a b : Bool) (o : Option Keyword) (w n : List ℕ) (k : Keyword) → o ≡ Some k → (if (a && b) && not (is_some o) then Some w else None) ≡ Some n → ⊥
named_by true true (Some j) w n k e f = cc f
named_by true true None w n k e f = cc e
named_by true false o w n k e f = cc f
named_by false b o w n k e f = cc f

pub name_or_keyword : (word n : List ℕ) (k : Keyword) → keyword_of word ≡ Some k → name_of word ≡ Some n → ⊥
name_or_keyword word n k e f = named_by (is_word word) (nat_le (length word) 30) (keyword_of word) (folded word) n k e f

pub number_once : (bytes : List ℕ) (y z : ℤ) (n k : ℕ) → BeginsLexeme bytes (Number y) n → BeginsLexeme bytes (Number z) k → (y ≡ z) × (n ≡ k)
number_once bytes y z n k a b =
    let e : n ≡ k = number_is bytes y n a ∙ sym (number_is bytes z k b) in
    (a.spelled.value ∙ (ap (λ (m : ℕ). signed_digits_value 10 (take m bytes)) e ∙ sym b.spelled.value), e)

word_once_len : (bytes : List ℕ) (l m : Lexeme) (n k : ℕ) → BeginsLexeme bytes l n → BeginsLexeme bytes m k → is_word (take n bytes) ≡ true → is_word (take k bytes) ≡ true → is_word_byte (get_or bytes n 0) ≡ false → is_word_byte (get_or bytes k 0) ≡ false → n ≡ k
word_once_len bytes l m n k a b v w e f = sym (word_len bytes n a.within v e) ∙ word_len bytes k b.within w f

apart : {A : Type 0} (bytes : List ℕ) (l m : Lexeme) (n k : ℕ) → BeginsLexeme bytes l n → BeginsLexeme bytes m k → (class_of l ≡ class_of m → ⊥) → A
apart bytes l m n k a b differ = absurd (differ (sym (begins_class bytes l n a) ∙ begins_class bytes m k b))

-- one token stands first
pub once : (bytes : List ℕ) (l m : Lexeme) (n k : ℕ) → BeginsLexeme bytes l n → BeginsLexeme bytes m k → (l ≡ m) × (n ≡ k)
once bytes (Key i) (Key j) n k a b =
    let e = word_once_len bytes (Key i) (Key j) n k a b a.spelled.0 b.spelled.0 a.ends b.ends in
    let s : Some i ≡ Some j = sym a.spelled.1 ∙ (ap (λ (x : ℕ). keyword_of (take x bytes)) e ∙ b.spelled.1) in
    (cc s, e)
once bytes (Key i) (Named j) n k a b =
    let e = word_once_len bytes (Key i) (Named j) n k a b a.spelled.0 b.spelled.0 a.ends b.ends in
    absurd (name_or_keyword (take k bytes) j i (ap (λ (x : ℕ). keyword_of (take x bytes)) (sym e) ∙ a.spelled.1) b.spelled.1)
once bytes (Named i) (Key j) n k a b =
    let e = word_once_len bytes (Named i) (Key j) n k a b a.spelled.0 b.spelled.0 a.ends b.ends in
    absurd (name_or_keyword (take n bytes) i j (ap (λ (x : ℕ). keyword_of (take x bytes)) e ∙ b.spelled.1) a.spelled.1)
once bytes (Named i) (Named j) n k a b =
    let e = word_once_len bytes (Named i) (Named j) n k a b a.spelled.0 b.spelled.0 a.ends b.ends in
    let s : Some i ≡ Some j = sym a.spelled.1 ∙ (ap (λ (x : ℕ). name_of (take x bytes)) e ∙ b.spelled.1) in
    (cc s, e)
once bytes (Number i) (Number j) n k a b = let e = number_once bytes i j n k a b in (ap (λ (x : ℤ). Number x) e.0, e.1)
once bytes (Text i) (Text j) n k a b = let e = text_once bytes i j n k a b in (ap (λ (x : List ℕ). Text x) e.0, e.1)
once bytes (Sign i) (Sign j) n k a b = let e = mark_once bytes i j n k a b in (ap (λ (x : Mark). Sign x) e.0, e.1)
once bytes (Key i) (Number j) n k a b = apart bytes (Key i) (Number j) n k a b (λ e. cc e)
once bytes (Key i) (Text j) n k a b = apart bytes (Key i) (Text j) n k a b (λ e. cc e)
once bytes (Key i) (Sign j) n k a b = apart bytes (Key i) (Sign j) n k a b (λ e. cc e)
once bytes (Named i) (Number j) n k a b = apart bytes (Named i) (Number j) n k a b (λ e. cc e)
once bytes (Named i) (Text j) n k a b = apart bytes (Named i) (Text j) n k a b (λ e. cc e)
once bytes (Named i) (Sign j) n k a b = apart bytes (Named i) (Sign j) n k a b (λ e. cc e)
once bytes (Number i) (Key j) n k a b = apart bytes (Number i) (Key j) n k a b (λ e. cc e)
once bytes (Number i) (Named j) n k a b = apart bytes (Number i) (Named j) n k a b (λ e. cc e)
once bytes (Number i) (Text j) n k a b = apart bytes (Number i) (Text j) n k a b (λ e. cc e)
once bytes (Number i) (Sign j) n k a b = apart bytes (Number i) (Sign j) n k a b (λ e. cc e)
once bytes (Text i) (Key j) n k a b = apart bytes (Text i) (Key j) n k a b (λ e. cc e)
once bytes (Text i) (Named j) n k a b = apart bytes (Text i) (Named j) n k a b (λ e. cc e)
once bytes (Text i) (Number j) n k a b = apart bytes (Text i) (Number j) n k a b (λ e. cc e)
once bytes (Text i) (Sign j) n k a b = apart bytes (Text i) (Sign j) n k a b (λ e. cc e)
once bytes (Sign i) (Key j) n k a b = apart bytes (Sign i) (Key j) n k a b (λ e. cc e)
once bytes (Sign i) (Named j) n k a b = apart bytes (Sign i) (Named j) n k a b (λ e. cc e)
once bytes (Sign i) (Number j) n k a b = apart bytes (Sign i) (Number j) n k a b (λ e. cc e)
once bytes (Sign i) (Text j) n k a b = apart bytes (Sign i) (Text j) n k a b (λ e. cc e)

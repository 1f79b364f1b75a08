-- Words and digits at the front.
use Rattle.std.proofs.lemmas.Bool.{and_from}
use Rattle.std.proofs.Common.{◌≡◌, ℕ, suc, ◌+◌, ◌<◌, ◌≤◌, Bool, true, false, cond, ◌||◌, List, [], ◌∷◌, Some, length, take, get_or, refl, sym, ◌∙◌, ap, subst, arith}
use Rattle.std.proofs.lemmas.List.{get_or-take, length-take-le}
use Rattle.std.proofs.lemmas.List.Sums.{prefix_len-le-length, prefix_len_passes}
use Rattle.std.specs.Prelude.{◌==◌}
use Rattle.std.specs.Int.{is_in_range}
use Rattle.std.specs.List.{prefix_len, list_all}
use Rattle.std.specs.Char.{is_ascii_alphabetic}
use Rattle.base_core.specs.Words.{is_word_byte, is_word, name_of, keyword_of}
use Rattle.base_core.specs.declared.keyword.Keyword.{Keyword}
use Rattle.lexer_core.specs.declared.token.TokenKind.TheVariants as kinds
use Rattle.lexer_core.specs.Lexing.{Key, Named, BeginsKind}

one_more : (n : ℕ) → 1 + n ≡ suc n
one_more n = omega arith

module _ (p : ℕ → Bool) where
  pub all_passes : (xs : List ℕ) → ((k : ℕ) → k < length xs → p (get_or xs k 0) ≡ true) → list_all p xs ≡ true
  all_passes [] h = refl
  all_passes (x ∷ xs) h = and_from (p x) (list_all p xs) (h 0 (omega arith)) (all_passes xs (λ k l. h (suc k) (omega arith)))

  pub all_front : (bytes : List ℕ) → list_all p (take (prefix_len p bytes) bytes) ≡ true
  all_front bytes =
      let n = prefix_len p bytes in
      let le : n ≤ length bytes = prefix_len-le-length p bytes in
      let len : length (take n bytes) ≡ n = length-take-le n bytes le in
      all_passes (take n bytes) (λ k h. let l : k < n = omega arith in ap p (get_or-take n bytes k 0 l) ∙ prefix_len_passes p bytes k 0 l)

  stops_at : (x : ℕ) (bytes : List ℕ) (b : Bool) → p x ≡ b → p (get_or bytes (prefix_len p bytes) 0) ≡ false → p (get_or (x ∷ bytes) (cond b (1 + prefix_len p bytes) 0) 0) ≡ false
  stops_at x bytes true e h = rw (one_more (prefix_len p bytes)) h
  stops_at x bytes false e h = e

  pub stops : p 0 ≡ false → (bytes : List ℕ) → p (get_or bytes (prefix_len p bytes) 0) ≡ false
  stops z [] = z
  stops z (x ∷ bytes) = stops_at x bytes (p x) refl (stops z bytes)

  pub some_front : (bytes : List ℕ) → p 0 ≡ false → p (get_or bytes 0 0) ≡ true → 0 < prefix_len p bytes
  some_front [] z e = let clash : true ≡ false = sym e ∙ z in cc clash
  some_front (x ∷ bytes) z e = rw e (omega arith)

word_byte : (d u l v : Bool) → (u || l) ≡ true → (((d || u) || l) || v) ≡ true
word_byte true u l v e = refl
word_byte false true l v e = refl
word_byte false false true v e = refl
word_byte false false false v e = cc

pub letter_is_word_byte : (b : ℕ) → is_ascii_alphabetic b ≡ true → is_word_byte b ≡ true
letter_is_word_byte b e = word_byte (is_in_range 48 57 b) (is_in_range 65 90 b) (is_in_range 97 122 b) (b == 95) e

module _ (bytes : List ℕ) (n : ℕ) (is : n ≡ prefix_len is_word_byte bytes) (letter : is_ascii_alphabetic (get_or bytes 0 0) ≡ true) where
  word_some : 0 < n
  word_some = subst (λ (m : ℕ). 0 < m) (sym is) (some_front is_word_byte bytes refl (letter_is_word_byte (get_or bytes 0 0) letter))

  word_within : n ≤ length bytes
  word_within = omega (arith, prefix_len-le-length is_word_byte bytes)

  word_ends : is_word_byte (get_or bytes n 0) ≡ false
  word_ends = subst (λ (m : ℕ). is_word_byte (get_or bytes m 0) ≡ false) (sym is) (stops is_word_byte refl bytes)

  pub front_is_word : is_word (take n bytes) ≡ true
  front_is_word =
      let first : get_or (take n bytes) 0 0 ≡ get_or bytes 0 0 = get_or-take n bytes 0 0 word_some in
      let all : list_all is_word_byte (take n bytes) ≡ true = subst (λ (m : ℕ). list_all is_word_byte (take m bytes) ≡ true) (sym is) (all_front is_word_byte bytes) in
      and_from (is_ascii_alphabetic (get_or (take n bytes) 0 0)) (list_all is_word_byte (take n bytes)) (ap is_ascii_alphabetic first ∙ letter) all

  pub keyword_first : (k : Keyword) → keyword_of (take n bytes) ≡ Some k → BeginsKind bytes (kinds.Keyword k) n
  keyword_first k e = record { lexeme = Key k; same = refl; begins = record { some = word_some; within = word_within; spelled = (front_is_word, e); ends = word_ends } }

  pub name_first : (name : List ℕ) → name_of (take n bytes) ≡ Some name → BeginsKind bytes (kinds.Name name) n
  name_first name e = record { lexeme = Named name; same = refl; begins = record { some = word_some; within = word_within; spelled = (front_is_word, e); ends = word_ends } }

-- Small letters.
use Rattle.std.proofs.Common.{◌≡◌, ℕ, true, ◌&&◌, List, [], ◌∷◌, length, refl, ◌∙◌, ap, arith, nat_le, not, slice_index}
use Rattle.std.proofs.lemmas.Bool.Decides.{nat_tests}
use Rattle.std.proofs.lemmas.Bool.{and_parts, and_from}
use Rattle.std.proofs.lemmas.Str.Ascii.{lowercase-lowercase}
use Rattle.std.proofs.lemmas.List.{length-map}
use Rattle.std.specs.List.{list_all, find}
use Rattle.std.specs.Str.{bytes_eq}
use Rattle.std.specs.Option.{is_some}
use Rattle.std.specs.Char.{to_ascii_lowercase, is_ascii_alphabetic}
use Rattle.base_core.specs.Words.{is_word, is_word_byte, is_name, folded, keyword_of, all_keywords, text_of, IsName}

-- a letter stays one
letter : (c : ℕ) → is_ascii_alphabetic c ≡ true → is_ascii_alphabetic (to_ascii_lowercase c) ≡ true
letter c h = grind (arith, nat_tests)

-- and so does a byte of a word
word_byte : (c : ℕ) → is_word_byte c ≡ true → is_word_byte (to_ascii_lowercase c) ≡ true
word_byte c h = grind (arith, nat_tests)

pub folded-folded : (word : List ℕ) → folded (folded word) ≡ folded word
folded-folded [] = refl
folded-folded (c ∷ word) = cc (lowercase-lowercase c, folded-folded word)

word_bytes : (word : List ℕ) → list_all is_word_byte word ≡ true → list_all is_word_byte (folded word) ≡ true
word_bytes [] h = refl
word_bytes (c ∷ word) h =
    let parts = and_parts (is_word_byte c) (list_all is_word_byte word) h in
    and_from (is_word_byte (to_ascii_lowercase c)) (list_all is_word_byte (folded word)) (word_byte c parts.0) (word_bytes word parts.1)

first_letter : (word : List ℕ) → is_ascii_alphabetic (slice_index word 0) ≡ true → is_ascii_alphabetic (slice_index (folded word) 0) ≡ true
first_letter [] h = h
first_letter (c ∷ word) h = letter c h

keyword_of-folded : (word : List ℕ) → keyword_of (folded word) ≡ keyword_of word
unfolding keyword_of
keyword_of-folded word = ap (λ (w : List ℕ). find (λ k. bytes_eq (folded (text_of k)) w) all_keywords) (folded-folded word)

is_word-folded : (word : List ℕ) → is_word word ≡ true → is_word (folded word) ≡ true
is_word-folded word h =
    let parts = and_parts (is_ascii_alphabetic (slice_index word 0)) (list_all is_word_byte word) h in
    and_from (is_ascii_alphabetic (slice_index (folded word) 0)) (list_all is_word_byte (folded word)) (first_letter word parts.0) (word_bytes word parts.1)

-- a name in small letters is one too
is_name-folded : (word : List ℕ) → is_name word ≡ true → is_name (folded word) ≡ true
is_name-folded word h =
    let no_keyword = not (is_some (keyword_of word)) in
    let front = and_parts (is_word word && nat_le (length word) 30) no_keyword h in
    let parts = and_parts (is_word word) (nat_le (length word) 30) front.0 in
    and_from (is_word (folded word) && nat_le (length (folded word)) 30) (not (is_some (keyword_of (folded word))))
    (and_from (is_word (folded word)) (nat_le (length (folded word)) 30) (is_word-folded word parts.0) (ap (λ (n : ℕ). nat_le n 30) (length-map word to_ascii_lowercase) ∙ parts.1))
    (ap (λ k. not (is_some k)) (keyword_of-folded word) ∙ front.1)

pub IsName-folded : (word : List ℕ) → is_name word ≡ true → IsName (folded word)
IsName-folded word h = record { named = is_name-folded word h; small = folded-folded word }

-- A word that spells a name has letters, digits and `_` alone.
use Rattle.std.proofs.Common.{rules, ◌≡◌, ◌==◌, ◌&&◌, ℕ, List, [], ◌∷◌, length, slice_index, Bool, true, false, not, Some, None, refl}
use Rattle.std.specs.Prelude.{nat_le, is_some, if◌then◌else◌}
use Rattle.std.specs.Char.{is_ascii_alphabetic}
use Rattle.std.specs.List.{list_all}
use Rattle.base_core.specs.Words.{name_of, is_name, is_word, is_word_byte, folded, keyword_of}
use Rattle.login_core.specs.Decoding.{is_other, LacksByte}
use Rattle.login_core.proofs.Bools.{both_true, first_true, second_true, not_true}

-- a byte of a word is none that is no byte of words
other-byte : (byte b : ℕ) → is_word_byte byte ≡ false → is_word_byte b ≡ true → is_other byte b ≡ true
other-byte byte b none good = not_true (b == byte) (λ same. absurd (search rules))

free-word : (byte : ℕ) (word : List ℕ) → is_word_byte byte ≡ false → list_all is_word_byte word ≡ true → LacksByte byte word
free-word byte [] none all = refl
free-word byte (b ∷ bs) none all =
    both_true (is_other byte b) (list_all (is_other byte) bs) (other-byte byte b none (first_true (is_word_byte b) (list_all is_word_byte bs) all))
    (free-word byte bs none (second_true (is_word_byte b) (list_all is_word_byte bs) all))

-- and so has one that spells a name
pub free-name : (byte : ℕ) (word name : List ℕ) → is_word_byte byte ≡ false → name_of word ≡ Some name → LacksByte byte word
free-name byte word name none named = by (is_name word) refl named
  where
    by : (b : Bool) → is_name word ≡ b → (if b then Some (folded word) else None) ≡ Some name → LacksByte byte word
    by true is e =
        let spelled = first_true (is_word word) (nat_le (length word) 30) (first_true (is_word word && nat_le (length word) 30) (not (is_some (keyword_of word))) is) in
        free-word byte word none (second_true (is_ascii_alphabetic (slice_index word 0)) (list_all is_word_byte word) spelled)
    by false is e = absurd (search rules)

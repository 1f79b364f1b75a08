-- Names, numbers and texts as print writes them.
use Rattle.std.proofs.Common.{◌≡◌, ℕ, ◌<◌, true, List, [], ◌∷◌, length, All, arith}
use Rattle.std.specs.List.{list_all}
use Rattle.std.specs.Prelude.{slice_index, not, nat_le, ◌&&◌}
use Rattle.std.specs.Option.{is_some}
use Rattle.std.specs.Char.{is_ascii_alphabetic}
use Rattle.std.specs.Str.{IsAscii}
use Rattle.std.proofs.lemmas.Bool.{and_parts}
use Rattle.std.proofs.lemmas.Bool.Decides.{nat_tests}
use Rattle.std.proofs.lemmas.List.Elements.{All-nil, All-cons}
use Rattle.std.proofs.lemmas.Str.Ascii.{IsAscii-from_all}
use Rattle.base_core.specs.Words.{is_word, is_word_byte, keyword_of, IsName}

-- ---- words are ASCII
byte_small : (b : ℕ) → is_word_byte b ≡ true → b < 128
byte_small b e = grind (arith, nat_tests)

bytes_small : (bs : List ℕ) → list_all is_word_byte bs ≡ true → All (λ b. b < 128) bs
bytes_small [] e = All-nil (λ b. b < 128)
bytes_small (b ∷ bs) e =
    let p = and_parts (is_word_byte b) (list_all is_word_byte bs) e in
    All-cons (λ b. b < 128) b bs (byte_small b p.0) (bytes_small bs p.1)

pub name_word : (bs : List ℕ) → IsName bs → is_word bs ≡ true
name_word bs n = (and_parts (is_word bs) (nat_le (length bs) 30) (and_parts (is_word bs && nat_le (length bs) 30) (not (is_some (keyword_of bs))) n.named).0).0

pub word_ascii : (bs : List ℕ) → is_word bs ≡ true → IsAscii bs
word_ascii bs w = IsAscii-from_all bs (bytes_small bs (and_parts (is_ascii_alphabetic (slice_index bs 0)) (list_all is_word_byte bs) w).1)

-- The bytes of names: none is a control character of ASCII.
use Rattle.std.proofs.Common.{◌≡◌, ℕ, ◌≤◌, ◌&&◌, not, true, List, [], ◌∷◌, length, slice_index, is_some, nat_le, arith}
use Rattle.std.specs.Char.{is_ascii_alphabetic}
use Rattle.std.specs.List.{list_all}
use Rattle.std.proofs.lemmas.Bool.{and_parts}
use Rattle.std.proofs.lemmas.Bool.Decides.{nat_tests}
use Rattle.std.proofs.lemmas.List.Elements.{All-nil, All-cons}
use Rattle.base_core.specs.Words.{is_word, is_word_byte, keyword_of, IsName}
use Rattle.export_core.specs.Record.{IsPlain}

word_byte-high : (b : ℕ) → is_word_byte b ≡ true → 32 ≤ b
word_byte-high b h = grind (arith, nat_tests)

IsPlain-word : (bytes : List ℕ) → list_all is_word_byte bytes ≡ true → IsPlain bytes
IsPlain-word [] h = All-nil (λ b. 32 ≤ b)
IsPlain-word (b ∷ bytes) h =
    let parts = and_parts (is_word_byte b) (list_all is_word_byte bytes) h in
    All-cons (λ b. 32 ≤ b) b bytes (word_byte-high b parts.0) (IsPlain-word bytes parts.1)

-- names are plain
pub IsPlain-name : (name : List ℕ) → IsName name → IsPlain name
IsPlain-name name is =
    let short = and_parts (is_word name && nat_le (length name) 30) (not (is_some (keyword_of name))) is.named in
    let word = and_parts (is_word name) (nat_le (length name) 30) short.0 in
    let bytes = and_parts (is_ascii_alphabetic (slice_index name 0)) (list_all is_word_byte name) word.0 in
    IsPlain-word name bytes.1

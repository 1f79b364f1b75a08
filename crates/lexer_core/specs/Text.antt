-- Characters of texts.
use Rattle.std.specs.Prelude.{◌≡◌, ◌≢◌, ℕ, Bool, true, ◌&&◌, ◌||◌, not, ◌==◌, List, ◌∷◌, ◌++◌, [], length, if◌then◌else◌}
use Rattle.std.specs.List.{flat_map}
use Rattle.std.specs.Char.{encode_utf8, is_ascii_graphic, len_utf8, IsScalar}
use Rattle.base_core.specs.Texts.{is_printable, ArePlain}

-- a character of one byte that is no control character
abbrev pub is_printable_ascii : ℕ → Bool
is_printable_ascii b = is_ascii_graphic b || (b == 32)

-- the same, but for a quote: a text writes it as it is
abbrev pub is_plain_byte : ℕ → Bool
is_plain_byte b = is_printable_ascii b && not (b == 39)

-- how a text writes a character: a quote is doubled
abbrev pub written : ℕ → List ℕ
written c = if c == 39 then 39 ∷ 39 ∷ [] else encode_utf8 c

-- and how many bytes that takes
abbrev pub written_len : ℕ → ℕ
written_len c = if c == 39 then 2 else len_utf8 c

-- how it writes these characters
abbrev pub written_all : List ℕ → List ℕ
written_all cs = flat_map written cs

-- the bytes begin with no character that may stand in a text
abbrev pub BeginsWithNoPlain : List ℕ → Type 0
BeginsWithNoPlain bytes =
    (c : ℕ) (rest : List ℕ) → IsScalar c → is_printable c ≡ true → bytes ≢ encode_utf8 c ++ rest

-- the bytes begin with a character, of n bytes, that may stand in a text
pub record BeginsWithPlain (bytes : List ℕ) (n : ℕ) : Type 0 where
  pub char : ℕ
  pub rest : List ℕ
  pub scalar : IsScalar char
  pub printable : is_printable char ≡ true
  pub split : bytes ≡ encode_utf8 char ++ rest
  pub len : n ≡ length (encode_utf8 char)

-- the bytes are a quote, the characters as a text writes them, and then rest
pub record BeginsText (bytes : List ℕ) (cs rest : List ℕ) : Type 0 where
  pub plain : ArePlain cs
  pub split : bytes ≡ 39 ∷ (written_all cs ++ rest)

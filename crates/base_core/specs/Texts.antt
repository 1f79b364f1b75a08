-- Texts: characters in UTF-8, none of them a control character.
use Rattle.std.specs.Prelude.{◌≡◌, ◌≤◌, ℕ, Bool, true, not, List, length}
use Rattle.std.specs.List.{list_all}
use Rattle.std.specs.Char.{is_control}
use Rattle.std.specs.Str.{all_scalars, encode_utf8_all}

-- no control character
abbrev pub is_printable : ℕ → Bool
is_printable c = not (is_control c)

-- characters, none of them a control character
pub record ArePlain (chars : List ℕ) : Type 0 where
  pub scalars : all_scalars chars ≡ true
  pub printable : list_all is_printable chars ≡ true

-- the bytes are such characters in UTF-8, and at most 1,024
pub record IsText (bytes : List ℕ) : Type 0 where
  pub chars : List ℕ
  pub plain : ArePlain chars
  pub encoded : bytes ≡ encode_utf8_all chars
  pub short : length bytes ≤ 1024

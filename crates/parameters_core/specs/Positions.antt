-- Where in a text a byte of its line stands.
use Rattle.std.specs.Prelude.{◌≡◌, ◌+◌, ◌-◌, ◌⊎◌, ℕ, Bool, true, ◌||◌, List, [], ◌∷◌, length, take, min, nat_lt, if◌then◌else◌}
use Rattle.std.specs.List.{count_by}
use Rattle.parameters_core.specs.Statements.{is_line_end}
use Rattle.parameters_core.specs.Places.{Part, AreParts}

-- The byte of the text from which the byte at this offset of its line came, where each place has a
-- literal of one byte. For that literal and its two blanks it is where the place begins, and past
-- the line's end the text's end.
abbrev pub origin : List Part → List ℕ → ℕ → ℕ
origin [] last offset = min offset (length last)
origin (part ∷ parts) last offset =
    let segment = length part.segment in
    if nat_lt offset segment then offset
    else (if nat_lt (offset - segment) 3 then segment
    else segment + (length part.place + origin parts last (offset - segment - 3)))

-- the same of a text
pub record IsOrigin (text : List ℕ) (offset byte : ℕ) : Type 0 where
  pub parts : List Part
  pub last : List ℕ
  pub cut : AreParts text parts last
  pub from : byte ≡ origin parts last offset

-- a byte of a line came from this one of its text: it is the same, or a blank for a line end, or
-- in a place, which begins there
abbrev pub IsSource : ℕ → ℕ → Type 0
IsSource source byte =
    (byte ≡ source) ⊎ (((is_line_end source ≡ true) × (byte ≡ 32)) ⊎ (source ≡ 36))

-- a byte that does not continue a character in UTF-8
abbrev pub begins_char : ℕ → Bool
begins_char b = nat_lt b 128 || nat_lt 191 b

-- which character of the text stands at the byte, counted from 1
abbrev pub character_at : List ℕ → ℕ → ℕ
character_at text byte = 1 + count_by begins_char (take byte text)

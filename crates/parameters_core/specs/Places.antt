-- Places for parameters, and a text cut at its places.
use Rattle.std.specs.Prelude.{◌≡◌, ◌≤◌, ℕ, true, false, List, [], ◌∷◌, ◌++◌, drop, max, slice_index}
use Rattle.std.specs.Str.Parse.{IsNumeral, digits_value}
use Rattle.base_core.specs.Words.{is_word_byte}
use Rattle.parameters_core.specs.Statements.{IsClosed}

-- the number that the digits behind "$" spell
abbrev pub place_number : List ℕ → ℕ
place_number place = digits_value 10 (drop 1 place)

-- "$" and digits, whose number is 1 to 99
pub record IsPlace (place : List ℕ) : Type 0 where
  pub digits : List ℕ
  pub spelled : place ≡ 36 ∷ digits
  pub numeral : IsNumeral 10 digits
  pub some : 1 ≤ place_number place
  pub few : place_number place ≤ 99

-- no place stands at the front of the bytes: what reads like one goes on with a letter, a digit
-- or "_"
abbrev pub BeginsNoPlace : List ℕ → Type 0
BeginsNoPlace bytes =
    (place rest : List ℕ) → bytes ≡ place ++ rest → IsPlace place
    → is_word_byte (slice_index rest 0) ≡ true

-- none stands in them outside texts
abbrev pub HasNoPlace : List ℕ → Type 0
HasNoPlace bytes =
    (front behind : List ℕ) → bytes ≡ front ++ behind → IsClosed front → BeginsNoPlace behind

-- a segment of a text, and the place behind it
pub record Part : Type 0 where
  pub segment : List ℕ
  pub place : List ℕ

-- the text begins with this part: the first place outside texts ends it
pub record BeginsPart (text : List ℕ) (part : Part) (rest : List ℕ) : Type 0 where
  pub split : text ≡ part.segment ++ (part.place ++ rest)
  pub free : HasNoPlace part.segment
  pub closed : IsClosed part.segment
  pub is_place : IsPlace part.place
  pub ends : is_word_byte (slice_index rest 0) ≡ false

-- the text is these parts, one after another, and a last segment
abbrev pub AreParts : List ℕ → List Part → List ℕ → Type 0
AreParts text [] last = (text ≡ last) × HasNoPlace text
AreParts text (part ∷ parts) last =
    (rest : List ℕ) × BeginsPart text part rest × AreParts rest parts last

-- the greatest number of a place, or 0 where there is none
abbrev pub greatest_number : List Part → ℕ
greatest_number [] = 0
greatest_number (part ∷ parts) = max (place_number part.place) (greatest_number parts)

-- the same of a text
pub record IsGreatestNumber (text : List ℕ) (number : ℕ) : Type 0 where
  pub parts : List Part
  pub last : List ℕ
  pub cut : AreParts text parts last
  pub greatest : number ≡ greatest_number parts

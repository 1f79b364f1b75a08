-- Bytes put behind a line, which has room for 4,096.
use Rattle.std.specs.Prelude.{◌≡◌, ◌<◌, ◌≤◌, ℕ, pos, List, ◌∷◌, [], ◌++◌, length, Option, Some, None}
use Rattle.base_core.specs.declared.value.Value.{Value}
use Rattle.lexer_core.specs.Lexing.{Lexeme, Number}
use Rattle.printer_core.specs.Printing.{lexeme_text}
use Rattle.parameters_core.specs.declared.fault.FillFault.{FillFault}
use Rattle.parameters_core.specs.declared.fault.FillFault.TheVariants as faults
use Rattle.parameters_core.specs.Places.{Part, AreParts, greatest_number}
use Rattle.parameters_core.specs.Filling.{value_of_place, filled}

-- the bytes were put behind the line
pub record IsPut (bytes old new : List ℕ) : Type 0 where
  pub joined : new ≡ old ++ bytes
  pub short : length new ≤ 4096

-- they were not: the line would have more bytes than it has room for, or memory was refused
abbrev pub IsPutFault : ℕ → FillFault → Type 0
IsPutFault size faults.NoMemory = Unit {0}
IsPutFault size faults.TooLong = 4096 < size
IsPutFault size (faults.NoValue number) = ⊥

-- what a place's number says, by the values, or 1 where there are none
abbrev pub says_by : Option (List Value) → ℕ → Lexeme
says_by None n = Number (pos 1)
says_by (Some values) n = value_of_place values n

-- the literal of what a place says, between two blanks
abbrev pub parted : Lexeme → List ℕ
parted l = 32 ∷ (lexeme_text l ++ 32 ∷ [])

-- each place of the text has a value, where there are values
abbrev pub AreEnough : List ℕ → Option (List Value) → Type 0
AreEnough text None = Unit {0}
AreEnough text (Some values) =
    (parts : List Part) (last : List ℕ) → AreParts text parts last
    → greatest_number parts ≤ length values

-- the number of a place has a value, where there are values
abbrev pub HasValue : Option (List Value) → ℕ → Type 0
HasValue None n = Unit {0}
HasValue (Some values) n = (1 ≤ n) × (n ≤ length values)

-- the line is the text, filled by these values or ones
pub record IsFilledBy (text : List ℕ) (values : Option (List Value)) (line : List ℕ) : Type 0 where
  pub parts : List Part
  pub last : List ℕ
  pub cut : AreParts text parts last
  pub whole : line ≡ filled (says_by values) parts last

-- it is not: it would have more than 4,096 bytes, or memory was refused
abbrev pub IsFilledByFault : List ℕ → Option (List Value) → FillFault → Type 0
IsFilledByFault text values faults.NoMemory = Unit {0}
IsFilledByFault text values faults.TooLong =
    (line : List ℕ) × IsFilledBy text values line × (4096 < length line)
IsFilledByFault text values (faults.NoValue number) = ⊥

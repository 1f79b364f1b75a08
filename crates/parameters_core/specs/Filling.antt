-- The line that a text with places is, once each place has its value.
use Rattle.std.specs.Prelude.{◌≡◌, ◌<◌, ◌≤◌, ◌-◌, ℕ, pos, Bool, false, not, ◌&&◌, List, [], ◌∷◌, ◌++◌, All, length, replicate, slice_index_or, if◌then◌else◌}
use Rattle.base_core.specs.declared.value.Value.{Value}
use Rattle.base_core.specs.declared.value.Value.TheVariants.{Int}
use Rattle.lexer_core.specs.Lexing.{Lexeme, IsProper}
use Rattle.reader_core.specs.declared.statement.Statement.{Statement}
use Rattle.reader_core.specs.Saying.{value_lexeme}
use Rattle.reader_core.specs.Language.{Spells}
use Rattle.printer_core.specs.Printing.{lexeme_text}
use Rattle.parameters_core.specs.declared.fault.FillFault.{FillFault}
use Rattle.parameters_core.specs.declared.fault.FillFault.TheVariants as faults
use Rattle.parameters_core.specs.Statements.{inside_behind, is_line_end}
use Rattle.parameters_core.specs.Places.{Part, AreParts, IsGreatestNumber, greatest_number, place_number}

-- how a byte stands in the line, by whether a text is open before it: a line end outside texts is
-- a blank there
abbrev pub line_byte : Bool → ℕ → ℕ
line_byte inside b = if is_line_end b && not inside then 32 else b

-- the same of these bytes
abbrev pub line_bytes : Bool → List ℕ → List ℕ
line_bytes inside [] = []
line_bytes inside (b ∷ bs) = line_byte inside b ∷ line_bytes (inside_behind inside b) bs

-- a segment as it stands in the line
abbrev pub as_line : List ℕ → List ℕ
as_line segment = line_bytes false segment

-- the parts and the last segment in a line, with what each number says between blanks in its place
abbrev pub filled : (ℕ → Lexeme) → List Part → List ℕ → List ℕ
filled says [] last = as_line last
filled says (part ∷ parts) last =
    as_line part.segment
    ++ (32 ∷ (lexeme_text (says (place_number part.place)) ++ (32 ∷ filled says parts last)))

-- what the number of a place says: the first value is that of 1 (there is 0 behind the last one)
abbrev pub value_of_place : List Value → ℕ → Lexeme
value_of_place values n = value_lexeme (slice_index_or values (n - 1) (Int (pos 0)))

-- the line is the text with these values in its places, and each place has one
pub record IsFilled (text : List ℕ) (values : List Value) (line : List ℕ) : Type 0 where
  pub parts : List Part
  pub last : List ℕ
  pub cut : AreParts text parts last
  pub enough : greatest_number parts ≤ length values
  pub whole : line ≡ filled (value_of_place values) parts last

-- the number 1 for each place that a text may have
unfoldable pub ones : List Value
ones = replicate 99 (Int (pos 1))

-- the text with these values spells the statement
pub record SpellsWith (text : List ℕ) (values : List Value) (s : Statement) : Type 0 where
  pub line : List ℕ
  pub is_filled : IsFilled text values line
  pub spelled : Spells line s

-- numbers and texts that their types allow
abbrev pub AreProper : List Value → Type 0
AreProper values = All (λ value. IsProper (value_lexeme value)) values

-- why there is no such line: a place has no value, or it has more than 4,096 bytes
abbrev pub IsFillFault : List ℕ → List Value → FillFault → Type 0
IsFillFault text values faults.NoMemory = Unit {0}
IsFillFault text values faults.TooLong =
    (line : List ℕ) × IsFilled text values line × (4096 < length line)
IsFillFault text values (faults.NoValue number) =
    IsGreatestNumber text number × (length values < number)

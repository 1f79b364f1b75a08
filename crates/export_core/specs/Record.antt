-- The lines of records: fields with commas between them, and a line feed.
use Rattle.std.specs.Prelude.{◌≡◌, ◌≤◌, ◌==◌, ◌||◌, Bool, true, false, ℕ, List, [], ◌∷◌, ◌++◌, All, if◌then◌else◌, codes, map}
use Rattle.std.specs.List.{list_any, flat_map, join_with_byte}
use Rattle.std.specs.Fmt.{signed_decimal}
use Rattle.std.proofs.Common.{Vec, Global}
use Rattle.csv.specs.Writing.{writer_under, writer_pending, writer_setup, fields_written, has_written, default_writer, with_flexible}
use Rattle.csv.specs.declared.writer.WriterBuilder.{WriterBuilder}
use Rattle.csv.specs.declared.writer.Writer.{Writer}
use Rattle.base_core.specs.declared.value.Value.{Value}
use Rattle.base_core.specs.declared.value.Value.TheVariants as values
use Rattle.base_core.specs.declared.value.Row.{Row}

abbrev pub comma : ℕ
comma = 44

abbrev pub quote : ℕ
quote = 34

-- whether a byte is a comma or a quote
abbrev pub forces_quotes : ℕ → Bool
forces_quotes b = (b == comma) || (b == quote)

-- a byte, twice if it is a quote
abbrev pub doubled_byte : ℕ → List ℕ
doubled_byte b = if b == quote then quote ∷ quote ∷ [] else b ∷ []

-- the text of a field: in quotes exactly where it has a comma or a quote, with each quote inside doubled
abbrev pub field_text : List ℕ → List ℕ
field_text field =
    if list_any forces_quotes field
    then quote ∷ (flat_map doubled_byte field ++ quote ∷ [])
    else field

-- the texts of the fields, with a comma between each two
abbrev pub fields_text : List (List ℕ) → List ℕ
fields_text fields = join_with_byte comma (map field_text fields)

-- the line of a record
abbrev pub record_line : List (List ℕ) → List ℕ
record_line fields = fields_text fields ++ codes "\n"

-- a value as a field
abbrev pub value_field : Value → List ℕ
value_field (values.Int number) = signed_decimal number
value_field (values.Text text) = text

-- the line of a row with these values
abbrev pub row_line : List Value → List ℕ
row_line row = record_line (codes "row" ∷ map value_field row)

-- the lines of rows
abbrev pub row_lines : List Row → List ℕ
row_lines rows = flat_map (λ row. row_line row.values) rows

-- no control character of ASCII
abbrev pub IsPlain : List ℕ → Type 0
IsPlain bytes = All (λ b. 32 ≤ b) bytes

-- further fields, each with a comma before it
abbrev pub more_text : List (List ℕ) → List ℕ
more_text fields = flat_map (λ field. comma ∷ field_text field) fields

-- the text that a writer over a vector holds
abbrev pub text_in : Writer (Vec ℕ Global) → List ℕ
text_in w = (writer_under w).items ++ writer_pending w

-- how records are written: as csv does by itself, and of any lengths by one writer
abbrev pub record_writer : WriterBuilder
record_writer = with_flexible default_writer true

-- a writer of records that stands between two of them
pub record IsBetween (w : Writer (Vec ℕ Global)) : Type 0 where
  pub setup : writer_setup w ≡ record_writer
  pub none : fields_written w ≡ 0
  pub blank : has_written w ≡ false

-- a writer of records, in one that has shown a byte
pub record IsBegun (w : Writer (Vec ℕ Global)) : Type 0 where
  pub setup : writer_setup w ≡ record_writer
  pub some : 1 ≤ fields_written w
  pub shown : has_written w ≡ true

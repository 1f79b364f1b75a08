-- Rows and what they are described by (PostgreSQL's protocol 3.0, "Message Formats").
use Rattle.std.specs.Prelude.{ℕ, ℤ, List, [], ◌∷◌, ◌++◌, Option, Some, None}
use Rattle.std.specs.Fmt.{signed_decimal}
use Rattle.std.specs.Int.{w64, to_be_bytes, cast_unsigned}
use Rattle.base_core.specs.declared.value.ColType.{ColType}
use Rattle.base_core.specs.declared.value.ColType.TheVariants as types
use Rattle.base_core.specs.declared.value.Value.{Value}
use Rattle.base_core.specs.declared.value.Value.TheVariants as values
use Rattle.messages_core.specs.Fields.{int16, int32, string, value, counted_items, sized, minus_one}
use Rattle.messages_core.specs.declared.rows.Format.{Format}
use Rattle.messages_core.specs.declared.rows.Format.TheVariants as formats
use Rattle.messages_core.specs.declared.rows.ColumnDescription.{ColumnDescription}
use Rattle.messages_core.specs.declared.rows.Cell.{Cell}
use Rattle.messages_core.specs.declared.rows.Cell.TheVariants as cells

-- int8 and text, by their numbers in PostgreSQL's catalogue of types
abbrev pub type_number : ColType → ℕ
type_number types.Integer = 20
type_number types.Text = 25

-- how many bytes a value of the type has: 8, or -1 where that varies
abbrev pub type_size : ColType → ℕ
type_size types.Integer = 8
type_size types.Text = 65535

abbrev pub format_code : Format → ℕ
format_code formats.Text = 0
format_code formats.Binary = 1

-- what stands behind the name of a column: 0 for its table and 0 for its place there, as it is of none;
-- the type and its size; -1, no modifier; and the format
abbrev pub behind_name : ColType → Format → List ℕ
behind_name ty format = int32 0 ++ (int16 0 ++ (int32 (type_number ty)
    ++ (int16 (type_size ty) ++ (int32 minus_one ++ int16 (format_code format)))))

-- the description of a column
abbrev pub described : ColumnDescription → List ℕ
described c = string c.name ++ behind_name c.ty c.format

-- the zero byte that ends the name, and what stands behind it
abbrev pub column_tail : ColType → Format → List ℕ
column_tail ty format = 0 ∷ behind_name ty format

-- a number as a value: in decimal, or in eight bytes, the most significant first, of its two's
-- complement
abbrev pub number_value : Format → ℤ → List ℕ
number_value formats.Text number = signed_decimal number
number_value formats.Binary number = to_be_bytes w64 (cast_unsigned w64 number)

-- what a row has in a place: bytes, or NULL
abbrev pub cell_value : Cell → Option (List ℕ)
cell_value cells.Null = None
cell_value (cells.Text text) = Some text
cell_value (cells.Number number format) = Some (number_value format number)

-- a value of a row of a table, in this format: a text is the same in both
abbrev pub formatted_value : Value → Format → Option (List ℕ)
formatted_value (values.Int number) format = Some (number_value format number)
formatted_value (values.Text text) format = Some text

-- and its bytes in a message
abbrev pub value_bytes : Value → Format → List ℕ
value_bytes v format = value (formatted_value v format)

-- the values of a row, each in the format of its column
abbrev pub row_values : List Value → List Format → List (Option (List ℕ))
row_values [] fs = []
row_values (v ∷ vs) [] = []
row_values (v ∷ vs) (f ∷ fs) = formatted_value v f ∷ row_values vs fs

-- DataRow: each value, or NULL
abbrev pub data_row : List (Option (List ℕ)) → List ℕ
data_row row = 68 ∷ sized (counted_items value row)

-- RowDescription: a description for each column
abbrev pub row_description : List ColumnDescription → List ℕ
row_description columns = 84 ∷ sized (counted_items described columns)

-- ParameterDescription: an Int32 for each parameter, its type
abbrev pub parameter_description : List ℕ → List ℕ
parameter_description types = 116 ∷ sized (counted_items int32 types)

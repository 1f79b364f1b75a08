-- What stands in the records of a stream.
use Rattle.std.specs.Prelude.{ℕ, List, decimal}
use Rattle.stream_core.specs.declared.cell.Cell.{Cell}
use Rattle.stream_core.specs.declared.cell.Cell.TheVariants as cells
use Rattle.stream_core.specs.Lines.{column_text, option_text, privilege_text, column_type_text}

-- the text of a field
abbrev pub cell_bytes : Cell → List ℕ
cell_bytes (cells.Name name) = name
cell_bytes (cells.Number number) = decimal number
cell_bytes (cells.TypeOf ty) = column_type_text ty
cell_bytes (cells.Privilege kind) = privilege_text kind
cell_bytes (cells.ColumnOf kind) = column_text kind
cell_bytes (cells.Flag flag) = option_text flag

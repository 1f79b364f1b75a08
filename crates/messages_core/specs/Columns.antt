-- The columns of a table, as RowDescription tells them (PostgreSQL's protocol 3.0, "Message Formats").
use Rattle.std.specs.Prelude.{ℕ, List, [], ◌∷◌, slice_index_or}
use Rattle.base_core.specs.declared.value.Column.{Column}
use Rattle.messages_core.specs.declared.rows.ColumnDescription.{ColumnDescription}
use Rattle.messages_core.specs.declared.rows.Format.{Format}
use Rattle.messages_core.specs.declared.rows.Format.TheVariants as formats

-- the format of the column in this place, counted from 0: text, if there are not so many
abbrev pub format_at : List Format → ℕ → Format
format_at fs place = slice_index_or fs place formats.Text

-- a column of a table, in this format
abbrev pub column_in : Column → Format → ColumnDescription
column_in column f = record { name = column.name; ty = column.ty; format = f }

-- the columns of a table, each in the format of its place
abbrev pub table_columns : List Column → List Format → List ColumnDescription
table_columns [] fs = []
table_columns (c ∷ cs) [] = column_in c formats.Text ∷ table_columns cs []
table_columns (c ∷ cs) (f ∷ fs) = column_in c f ∷ table_columns cs fs

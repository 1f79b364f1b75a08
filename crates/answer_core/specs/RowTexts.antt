-- The rows of an answer in messages, and the descriptions of their columns.
use Rattle.std.specs.Prelude.{ℕ, ◌-◌, pos, List, [], ◌∷◌, Some, None, codes, length, take}
use Rattle.base_core.specs.declared.value.Row.{Row}
use Rattle.base_core.specs.declared.value.ColType.{ColType}
use Rattle.base_core.specs.declared.value.ColType.TheVariants as types
use Rattle.messages_core.specs.Columns.{format_at}
use Rattle.messages_core.specs.Rows.{data_row, number_value, row_description, row_values}
use Rattle.messages_core.specs.declared.rows.ColumnDescription.{ColumnDescription}
use Rattle.messages_core.specs.declared.rows.Format.{Format}
use Rattle.system_core.specs.declared.machine.event.Checkpoint.{Checkpoint}
use Rattle.system_core.specs.declared.machine.event.Checkpoint.TheVariants as checkpoints
use Rattle.system_core.specs.declared.machine.event.Reply.{Reply}
use Rattle.system_core.specs.declared.machine.event.Reply.TheVariants as replies

-- a line without the line feed at its end
abbrev pub unended : List ℕ → List ℕ
unended line = take (length line - 1) line

-- a number as an int8, in this format
abbrev pub int8_value : Format → ℕ → List ℕ
int8_value format number = number_value format (pos number)

-- a row of a table: each value in the format of its column
abbrev pub table_row : List Format → Row → List ℕ
table_row fs row = data_row (row_values row.values fs)

-- a checkpoint: its state, its number, its point, and how many records are left, which is NULL once it
-- is finished
abbrev pub checkpoint_row : List Format → Checkpoint → List ℕ
checkpoint_row fs (checkpoints.Kept number point) =
    data_row (Some (codes "finished") ∷ Some (int8_value (format_at fs 1) number)
    ∷ Some (int8_value (format_at fs 2) point.0) ∷ None ∷ [])
checkpoint_row fs (checkpoints.Active number point left) =
    data_row (Some (codes "active") ∷ Some (int8_value (format_at fs 1) number)
    ∷ Some (int8_value (format_at fs 2) point.0) ∷ Some (int8_value (format_at fs 3) left) ∷ [])

-- a record of an export: its line, without the line feed
abbrev pub record_row : List ℕ → List ℕ
record_row line = data_row (Some (unended line) ∷ [])

-- a column of this name, in the format of its place
abbrev pub column_named : List ℕ → ColType → List Format → ℕ → ColumnDescription
column_named text kind fs place = record { name = text; ty = kind; format = format_at fs place }

-- the columns of CHECKPOINTS
abbrev pub checkpoint_columns : List Format → List ColumnDescription
checkpoint_columns fs =
    column_named (codes "state") types.Text fs 0
    ∷ column_named (codes "n") types.Integer fs 1
    ∷ column_named (codes "point") types.Integer fs 2
    ∷ column_named (codes "left") types.Integer fs 3
    ∷ []

-- the column of EXPORT
abbrev pub export_columns : List Format → List ColumnDescription
export_columns fs = column_named (codes "line") types.Text fs 0 ∷ []

-- what is written before the rows of a reply where they are described first; rows of a table have the
-- columns that the statement asks for
abbrev pub description_text : Reply → List ColumnDescription → List Format → List ℕ
description_text (replies.Rows at rows) columns fs = row_description columns
description_text (replies.Listed at entries) columns fs = row_description (checkpoint_columns fs)
description_text (replies.Export ticket) columns fs = row_description (export_columns fs)
description_text reply columns fs = []

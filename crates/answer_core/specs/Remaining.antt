-- The rows that are still to be sent of an answer.
use Rattle.std.specs.Prelude.{ℕ, ◌+◌, Bool, true, false, List, ◌++◌, length, map, drop}
use Rattle.std.specs.Option.{option_to_list}
use Rattle.messages_core.specs.declared.rows.Format.{Format}
use Rattle.answer_core.specs.Messages.{closing}
use Rattle.answer_core.specs.RowTexts.{checkpoint_row, record_row, table_row}
use Rattle.answer_core.specs.declared.items.Items.{Items}
use Rattle.answer_core.specs.declared.items.Items.TheVariants as items
use Rattle.answer_core.specs.declared.records.Records.{Records}
use Rattle.answer_core.specs.declared.unsent.Remainder.{Remainder}
use Rattle.answer_core.specs.declared.unsent.Remainder.TheVariants as remainders
use Rattle.answer_core.specs.declared.unsent.Portal.{Portal}
use Rattle.answer_core.specs.declared.unsent.Unsent.{Unsent}

-- the row of each item of a list
abbrev pub item_rows : Items → List Format → List (List ℕ)
item_rows (items.Rows rows) fs = map (table_row fs) rows
item_rows (items.Checkpoints entries) fs = map (checkpoint_row fs) entries

-- how many items it has
abbrev pub item_count : Items → ℕ
item_count (items.Rows rows) = length rows
item_count (items.Checkpoints entries) = length entries

-- the records of an export that are to come: one that was taken already, and those of its ticket
abbrev pub records_left : Records → List (List ℕ)
records_left records = option_to_list records.ahead ++ records.ticket.to_come

-- the rows that are to come
abbrev pub remaining_rows : Remainder → List Format → List (List ℕ)
remaining_rows (remainders.Listed list next) fs = drop next (item_rows list fs)
remaining_rows (remainders.Export records sent) fs = map record_row (records_left records)

-- how many rows there are in all: those that were sent, and those to come
abbrev pub total_count : Remainder → ℕ
total_count (remainders.Listed list next) = item_count list
total_count (remainders.Export records sent) = sent + length (records_left records)

-- whether a row may find no memory
abbrev pub is_export : Remainder → Bool
is_export (remainders.Listed list next) = false
is_export (remainders.Export records sent) = true

-- the rows that a portal has still to send
abbrev pub rows_left : Portal → List (List ℕ)
rows_left portal = remaining_rows portal.remainder portal.frame.formats

-- what is written behind them: the moment, and the tag with the number of all rows
abbrev pub portal_closing : Portal → List ℕ
portal_closing portal =
    closing portal.frame.tag (total_count portal.remainder) portal.frame.at.0

-- how many rows are to come
abbrev pub rows_to_come : Unsent → ℕ
rows_to_come unsent = length (rows_left unsent.portal)

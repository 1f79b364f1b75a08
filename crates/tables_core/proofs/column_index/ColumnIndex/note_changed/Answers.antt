use Rattle.std.proofs.Common.{rules}
use Rattle.tables_core.proofs.column_index.ColumnIndex.note_changed.Goals as goal

pub returns-clause-noted : goal.returns-clause-noted
returns-clause-noted c = search rules

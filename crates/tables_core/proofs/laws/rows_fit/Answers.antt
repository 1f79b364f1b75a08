use Rattle.tables_core.proofs.FittingLemmas.{RowsFit-with_row, RowsFit-deleted, RowsFit-updated}
use Rattle.tables_core.proofs.laws.rows_fit.Goals as goal

pub returns-clause-inserted : goal.returns-clause-inserted
returns-clause-inserted c = RowsFit-with_row

pub returns-clause-deleted : goal.returns-clause-deleted
returns-clause-deleted c = RowsFit-deleted

pub returns-clause-updated : goal.returns-clause-updated
returns-clause-updated c = RowsFit-updated

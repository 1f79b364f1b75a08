use Rattle.tables_core.proofs.NumberLemmas.{IsNumbered-opened, IsNumbered-with_row, IsNumbered-deleted, IsNumbered-updated}
use Rattle.tables_core.proofs.laws.numbers_rise.Goals as goal

pub returns-clause-opened : goal.returns-clause-opened
returns-clause-opened c = IsNumbered-opened

pub returns-clause-inserted : goal.returns-clause-inserted
returns-clause-inserted c = IsNumbered-with_row

pub returns-clause-deleted : goal.returns-clause-deleted
returns-clause-deleted c = IsNumbered-deleted

pub returns-clause-updated : goal.returns-clause-updated
returns-clause-updated c = IsNumbered-updated

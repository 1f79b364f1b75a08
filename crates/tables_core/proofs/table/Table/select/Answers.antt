use Rattle.std.proofs.Common.{rules}
use Rattle.tables_core.proofs.table.Table.select.Goals as goal

pub returns-in-Some : goal.returns-in-Some
returns-in-Some c = search rules

use Rattle.tables_core.proofs.ContentsLemmas.{table_of-with_change, table_of-append, names-with_change}
use Rattle.tables_core.proofs.laws.look_ups_after_changes.Goals as goal

pub returns-clause-changed : goal.returns-clause-changed
returns-clause-changed c = table_of-with_change

pub returns-clause-created : goal.returns-clause-created
returns-clause-created c = table_of-append

pub returns-clause-names : goal.returns-clause-names
returns-clause-names c = names-with_change

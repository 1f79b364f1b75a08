use Rattle.std.proofs.lemmas.Map.Made.{keys_of-map_values}
use Rattle.tables_core.specs.Capture.{StoredTable}
use Rattle.tables_core.proofs.tables.Tables.len.Goals as goal

pub returns-clause-names : goal.returns-clause-names
returns-clause-names c = rw (← c.self.view_is, keys_of-map_values (λ (t : StoredTable). t.contents) c.self.inside.tables.entries) c.len.ensures.unique

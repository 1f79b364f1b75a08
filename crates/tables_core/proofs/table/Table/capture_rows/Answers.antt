use Rattle.std.proofs.Common.{sym, ◌∙◌}
use Rattle.tables_core.proofs.table.Table.capture_rows.Goals as goal

pub invariant_of-self : goal.invariant_of-self
invariant_of-self c = (
  rw c.capture_rows.ensures.contents c.self.invariant.0,
  c.self.invariant.1 ∙ sym c.capture_rows.ensures.next,
  rw c.capture_rows.ensures.contents c.self.invariant.2,
)

use Rattle.std.proofs.Common.{◌≡◌}
use Rattle.tables_core.specs.Updating.{with_new_rows}
use Rattle.tables_core.proofs.NewRowLemmas.{AreThere}
use Rattle.tables_core.proofs.update.set_new_rows.Given as goal

abbrev pub invariant-loop-number : goal.invariant-loop-number
invariant-loop-number l = record {
  set : with_new_rows l.rows.contents l.number-iterator.rest.items ≡ with_new_rows l.fn.rows.contents l.fn.new_rows.items;
  there : AreThere l.rows.contents l.number-iterator.rest.items;
  next : l.rows.next ≡ l.fn.rows.next;
  rest : l.rows.rest ≡ l.fn.rows.rest;
}

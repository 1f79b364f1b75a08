use Rattle.std.proofs.Common.{◌≡◌}
use Rattle.tables_core.specs.Picking.{without_rows}
use Rattle.tables_core.proofs.listed.drop_listed.Given as goal

abbrev pub invariant-loop-number : goal.invariant-loop-number
invariant-loop-number l = record {
  contents : without_rows l.number-iterator.rest.items l.rows.contents ≡ without_rows l.fn.numbers.items l.fn.rows.contents;
  next : l.rows.next ≡ l.fn.rows.next;
  rest : l.rows.rest ≡ l.fn.rows.rest;
}

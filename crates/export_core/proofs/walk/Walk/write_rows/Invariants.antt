use Rattle.std.proofs.Common.{◌≡◌, ℕ, false, []}
use Rattle.csv.specs.Writing.{writer_pending}
use Rattle.export_core.specs.Record.{IsBetween}
use Rattle.export_core.specs.Ticket.{WritesRecords}
use Rattle.export_core.proofs.walk.Walk.write_rows.Given as goal

-- so many records were given and written
abbrev pub invariant-loop : goal.invariant-loop
invariant-loop g l = record {
  good : g.W.Sink.failed l.writer ≡ false;
  between : IsBetween l.records;
  pending : writer_pending l.records ≡ [];
  so_far : (n : ℕ) × WritesRecords n l.initial.self l.self (g.W.Sink.taken l.initial.writer) (g.W.Sink.taken l.writer);
}

use Rattle.std.specs.Io.KnownBytes.{Appends}
use Rattle.base_core.specs.declared.value.Row.{Row}
use Rattle.base_core.specs.Streams.{WritesFront}
use Rattle.base_core.proofs.Fronts.{text-broken}
use Rattle.export_core.specs.Record.{row_line, row_lines}
use Rattle.reply_core.proofs.Pieces.{one_more, broken_at}
use Rattle.reply_core.proofs.records.write_rows.Goals as goal

pub loop-row-preserved : goal.loop-row-preserved
loop-row-preserved g c =
    let between = g.W.Sink.taken c.loop-row.writer in
    let after = g.W.Sink.taken c.write_row.new.writer in
    let line : Appends between after (row_line c.row-item.result.values) = rw c.as_slice.ensures at c.in_ok-write_row.ensures.1 in
    record {
      works = c.in_ok-write_row.ensures.0;
      written = one_more (λ (r : Row). row_line r.values) c.args.rows.now c.loop-row.row-index c.row-item.result c.row-item.result (g.W.Sink.taken c.args.writer.now) between after
          c.loop-row-test.true c.row-item.is c.loop-row.invariant.written line;
    }

pub returns-in_err-write_row : goal.returns-in_err-write_row
returns-in_err-write_row g c =
    let between = g.W.Sink.taken c.loop-row.writer in
    let after = g.W.Sink.taken c.write_row.new.writer in
    let line : WritesFront between after (row_line c.row-item.result.values) = rw c.as_slice.ensures at c.in_err-write_row.ensures.1 in
    text-broken g.W.Sink.failed g.W.Sink.taken _ _ (row_lines c.args.rows.now) c.from_residual.result c.from_residual.ensures.0 (
      c.in_err-write_row.ensures.0,
      broken_at (λ (r : Row). row_line r.values) c.args.rows.now c.loop-row.row-index c.row-item.result c.row-item.result (g.W.Sink.taken c.args.writer.now) between after
          c.loop-row-test.true c.row-item.is c.loop-row.invariant.written line,
    )

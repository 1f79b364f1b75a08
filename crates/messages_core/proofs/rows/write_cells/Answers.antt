use Rattle.std.proofs.Common.{ℕ, ◌^◌, List, Option, flat_map, subst, arith}
use Rattle.std.specs.Io.KnownBytes.{Appends}
use Rattle.base_core.proofs.Fronts.{text-broken}
use Rattle.messages_core.specs.Fields.{value}
use Rattle.messages_core.specs.Rows.{cell_value, row_values}
use Rattle.messages_core.proofs.Pieces.{item_fits, one_more, broken_at, cell_at, whole_row}
use Rattle.messages_core.proofs.rows.write_cells.Goals as goal

pub write-requires-clause-short : goal.write-requires-clause-short
write-requires-clause-short g c =
    let row = row_values c.args.values.now c.args.formats.now in
    let there = cell_at c.args.values.now c.args.formats.now c.loop-i.i c.index-values-i.result c.of.result c.loop-i-test.true
    c.requires.same c.index-values-i.is c.of.ensures in
    let told = cell_value c.of.result in
    omega (arith, item_fits value row c.loop-i.i told told (2 ^ 31) there.0 there.1 c.requires.short)

pub returns-in_err-write : goal.returns-in_err-write
returns-in_err-write g c =
    let row = row_values c.args.values.now c.args.formats.now in
    let there = cell_at c.args.values.now c.args.formats.now c.loop-i.i c.index-values-i.result c.of.result c.loop-i-test.true
    c.requires.same c.index-values-i.is c.of.ensures in
    let told = cell_value c.of.result in
    text-broken g.W.Sink.failed g.W.Sink.taken _ _ (flat_map value row) c.from_residual.result c.from_residual.ensures.0 (
      c.in_err-write.ensures.0,
      broken_at value row c.loop-i.i told told there.0 there.1
          (g.W.Sink.taken c.args.writer.now) (g.W.Sink.taken c.loop-i.writer) (g.W.Sink.taken c.write.new.writer)
          c.loop-i.invariant.written c.in_err-write.ensures.1,
    )

pub loop-i-preserved : goal.loop-i-preserved
loop-i-preserved g c =
    let row = row_values c.args.values.now c.args.formats.now in
    let there = cell_at c.args.values.now c.args.formats.now c.loop-i.i c.index-values-i.result c.of.result c.loop-i-test.true
    c.requires.same c.index-values-i.is c.of.ensures in
    let told = cell_value c.of.result in
    record {
      works = c.in_ok-write.ensures.0;
      written = one_more value row c.loop-i.i told told there.0 there.1
          (g.W.Sink.taken c.args.writer.now) (g.W.Sink.taken c.loop-i.writer) (g.W.Sink.taken c.write.new.writer)
          c.loop-i.invariant.written c.in_ok-write.ensures.1;
    }

pub returns : goal.returns
returns g c = (
  c.loop-i.invariant.works,
  subst (λ (row : List (Option (List ℕ))). Appends (g.W.Sink.taken c.args.writer.now) (g.W.Sink.taken c.loop-i.writer) (flat_map value row))
      (whole_row c.args.values.now c.args.formats.now c.loop-i.i c.loop-i-test.false c.requires.same) c.loop-i.invariant.written,
)

use Rattle.std.proofs.Common.{◌≡◌, ℕ, List, take, flat_map, ap, ◌∙◌, subst}
use Rattle.std.specs.Io.KnownBytes.{Appends}
use Rattle.base_core.proofs.Fronts.{text-broken}
use Rattle.messages_core.specs.Columns.{column_in, table_columns}
use Rattle.messages_core.specs.Rows.{described}
use Rattle.messages_core.specs.declared.rows.ColumnDescription.{ColumnDescription}
use Rattle.messages_core.specs.declared.rows.Format.{Format}
use Rattle.messages_core.proofs.Described.{made_at, whole_columns}
use Rattle.messages_core.proofs.Pieces.{broken_at, one_more}
use Rattle.messages_core.proofs.columns.write_descriptions.Goals as goal

pub returns-in_err-write : goal.returns-in_err-write
returns-in_err-write g c =
    let all = table_columns c.args.columns.now c.args.formats.now in
    let d = c.column_in.result in
    let made = c.column_in.ensures.column ∙ ap (λ (f : Format). column_in c.index-columns-i.result f) c.format_at.ensures in
    let there = made_at c.args.columns.now c.args.formats.now c.loop-i.i c.index-columns-i.result d c.loop-i-test.true c.index-columns-i.is made in
    text-broken g.W.Sink.failed g.W.Sink.taken _ _ (flat_map described all) c.from_residual.result c.from_residual.ensures.0 (
      c.in_err-write.ensures.0,
      broken_at described all c.loop-i.i d d there.0 there.1
          (g.W.Sink.taken c.args.writer.now) (g.W.Sink.taken c.loop-i.writer) (g.W.Sink.taken c.write.new.writer)
          c.loop-i.invariant.written c.in_err-write.ensures.1,
    )

pub loop-i-preserved : goal.loop-i-preserved
loop-i-preserved g c =
    let all = table_columns c.args.columns.now c.args.formats.now in
    let d = c.column_in.result in
    let made = c.column_in.ensures.column ∙ ap (λ (f : Format). column_in c.index-columns-i.result f) c.format_at.ensures in
    let there = made_at c.args.columns.now c.args.formats.now c.loop-i.i c.index-columns-i.result d c.loop-i-test.true c.index-columns-i.is made in
    record {
      works = c.in_ok-write.ensures.0;
      written = one_more described all c.loop-i.i d d there.0 there.1
          (g.W.Sink.taken c.args.writer.now) (g.W.Sink.taken c.loop-i.writer) (g.W.Sink.taken c.write.new.writer)
          c.loop-i.invariant.written c.in_ok-write.ensures.1;
    }

pub returns : goal.returns
returns g c = (
  c.loop-i.invariant.works,
  subst (λ (cs : List ColumnDescription). Appends (g.W.Sink.taken c.args.writer.now) (g.W.Sink.taken c.loop-i.writer) (flat_map described cs))
      (whole_columns c.args.columns.now c.args.formats.now c.loop-i.i c.loop-i-test.false) c.loop-i.invariant.written,
)

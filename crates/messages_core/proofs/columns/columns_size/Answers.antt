use Rattle.std.proofs.Common.{◌≡◌, ◌+◌, ℕ, List, take, length, flat_map, ap, ◌∙◌, arith}
use Rattle.messages_core.specs.Columns.{column_in, table_columns}
use Rattle.messages_core.specs.Rows.{described}
use Rattle.messages_core.specs.declared.rows.ColumnDescription.{ColumnDescription}
use Rattle.messages_core.specs.declared.rows.Format.{Format}
use Rattle.messages_core.proofs.Described.{columns_more, made_at, whole_columns}
use Rattle.messages_core.proofs.columns.columns_size.Goals as goal

pub overflow_add-size : goal.overflow_add-size
overflow_add-size c = omega (arith, c.loop-i.invariant.short, c.column_in.ensures.short, c.size-size.ensures, c.requires)

pub loop-i-preserved : goal.loop-i-preserved
loop-i-preserved c =
    let made = c.column_in.ensures.column ∙ ap (λ (f : Format). column_in c.index-columns-i.result f) c.format_at.ensures in
    let there = made_at c.args.columns.now c.args.formats.now c.loop-i.i c.index-columns-i.result c.column_in.result c.loop-i-test.true c.index-columns-i.is made in
    let more = columns_more c.args.columns.now c.args.formats.now c.loop-i.i c.column_in.result there.0 there.1 in
    let so_far = c.loop-i.invariant in
    record {
      told = omega (arith, more, c.size-size.ensures, so_far.told);
      short = omega (arith, c.column_in.ensures.short, c.size-size.ensures, so_far.short);
    }

pub returns-clause-size : goal.returns-clause-size
returns-clause-size c =
    c.loop-i.invariant.told
    ∙ ap (λ (cs : List ColumnDescription). length (flat_map described cs))
    (whole_columns c.args.columns.now c.args.formats.now c.loop-i.i c.loop-i-test.false)

use Rattle.std.proofs.Common.{◌≡◌, ℕ, ◌+◌, suc, Err, Some, List, map, length, take, drop, ap, sym, subst, arith, rules}
use Rattle.std.specs.Prelude.{slice_get}
use Rattle.std.proofs.lemmas.List.{take_all, length-map, length-take-le}
use Rattle.base_core.specs.declared.value.Row.{Row}
use Rattle.dump_core.specs.Dump.{insertion, as_table}
use Rattle.dump_core.specs.Ending.{WritesLines}
use Rattle.dump_core.proofs.WritingLemmas.{made_at, around, one_more, row-formed, row-next, row-stop}
use Rattle.dump_core.proofs.contents.write_rows_kept.Goals as goal

pub write_row-requires-clause-values : goal.write_row-requires-clause-values
write_row-requires-clause-values g c =
    let table = c.args.table.now in
    let rows = (as_table table).1.rows in
    let row : ℕ × Row = (0, c.row-item.result) in
    let i = c.loop-row.row-index in
    let at : slice_get rows i ≡ Some row = subst (λ (rs : List Row). slice_get (map (λ r. (0, r)) rs) i ≡ Some row) c.as_slice-row-items.ensures (made_at (λ r. (0, r)) c.as_slice-row-items.result.now i c.row-item.result c.loop-row-test.true c.row-item.is) in
    row-formed table.name table.owner (take i rows) (drop (suc i) rows) rows row (around rows i row at) c.requires.formed

pub returns-in_err-write_row-clause-ends : goal.returns-in_err-write_row-clause-ends
returns-in_err-write_row-clause-ends g c =
    let table = c.args.table.now in
    let rows = (as_table table).1.rows in
    let row : ℕ × Row = (0, c.row-item.result) in
    let i = c.loop-row.row-index in
    let at : slice_get rows i ≡ Some row = subst (λ (rs : List Row). slice_get (map (λ r. (0, r)) rs) i ≡ Some row) c.as_slice-row-items.ensures (made_at (λ r. (0, r)) c.as_slice-row-items.result.now i c.row-item.result c.loop-row-test.true c.row-item.is) in
    let within = c.loop-row-test.true in
    let items = ap length c.as_slice-row-items.ensures in
    let size : length rows ≡ length table.rows = length-map table.rows (λ (r : Row). (0, r)) in
    let done : length (take i rows) ≡ i = length-take-le i rows (omega arith) in
    let number = c.loop-row.invariant.2 in
    let counted : c.loop-row.number + 1 ≡ length (take i rows) + 1 = omega arith in
    let same : c.from_residual.result ≡ Err c.in_err-write_row.field-0.0 = search rules in
    row-stop table.name table.owner (take i rows) (drop (suc i) rows) rows row (around rows i row at)
    (g.W.Sink.taken c.args.writer.now) (g.W.Sink.taken c.loop-row.writer) (g.W.Sink.taken c.write_row.new.writer) c.loop-row.invariant.1
    (c.loop-row.number + 1) counted c.from_residual.result c.in_err-write_row.field-0.0 same c.in_err-write_row.ensures.ends

pub loop-row-preserved : goal.loop-row-preserved
loop-row-preserved g c =
    let table = c.args.table.now in
    let rows = (as_table table).1.rows in
    let row : ℕ × Row = (0, c.row-item.result) in
    let i = c.loop-row.row-index in
    let a = g.W.Sink.taken c.args.writer.now in
    let d = g.W.Sink.taken c.write_row.new.writer in
    let at : slice_get rows i ≡ Some row = subst (λ (rs : List Row). slice_get (map (λ r. (0, r)) rs) i ≡ Some row) c.as_slice-row-items.ensures (made_at (λ r. (0, r)) c.as_slice-row-items.result.now i c.row-item.result c.loop-row-test.true c.row-item.is) in (
      c.in_ok-write_row.ensures.failed,
      subst (λ rs. WritesLines (map (insertion table.name table.owner) rs) a d) (sym (one_more rows i row at))
          (row-next table.name table.owner (take i rows) (drop (suc i) rows) rows row (around rows i row at) a (g.W.Sink.taken c.loop-row.writer) d c.loop-row.invariant.1 c.in_ok-write_row.ensures.ends),
      ap (λ (n : ℕ). n + 1) c.loop-row.invariant.2,
    )

pub returns-clause-ends : goal.returns-clause-ends
returns-clause-ends g c =
    let table = c.args.table.now in
    let rows = (as_table table).1.rows in
    let a = g.W.Sink.taken c.args.writer.now in
    let b = g.W.Sink.taken c.loop-row.writer in
    let size : length rows ≡ length table.rows = length-map table.rows (λ (r : Row). (0, r)) in
    let items = ap length c.as_slice-row-items.ensures in
    let past = c.loop-row-test.false in
    subst (λ rs. WritesLines (map (insertion table.name table.owner) rs) a b) (take_all c.loop-row.row-index rows (omega arith)) c.loop-row.invariant.1

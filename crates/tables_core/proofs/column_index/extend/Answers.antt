use Rattle.std.proofs.Common.{◌+◌, ◌<◌, List, sym, arith}
use Rattle.std.specs.List.{All}
use Rattle.std.proofs.lemmas.List.Elements.{All-weaker}
use Rattle.index_core.specs.declared.index.Index.{Index}
use Rattle.tables_core.specs.Indexing.{Numbered, Lists}
use Rattle.tables_core.proofs.ReachLemmas.{all-upto_next, all-reached}
use Rattle.tables_core.proofs.column_index.extend.Goals as goal

pub loop-preserved : goal.loop-preserved
loop-preserved c = λ h.
    let rows : List Numbered = c.args.rows.now.contents in
    let place = c.args.place in
    let next = c.loop.next in
    let row : Numbered = (c.in-Some.number, c.in-Some.row.now) in
    let old : Index = c.loop.index in
    let new : Index = c.note_row.new.index in
    let kept : All (λ r. r.0 < next → Lists new place r) rows =
    All-weaker (λ r. r.0 < next → Lists old place r) (λ r. r.0 < next → Lists new place r) (λ r lists below. c.in_ok-note_row.ensures.kept r (lists below)) rows (c.loop.invariant h) in
    let upto : All (λ r. r.0 < row.0 + 1 → Lists new place r) rows =
    all-upto_next (λ r. Lists new place r) next c.args.rows.now.next row rows c.len-len.ensures.numbered (sym c.in-Some.ensures) c.in_ok-note_row.ensures.noted kept in
    All-weaker (λ r. r.0 < row.0 + 1 → Lists new place r) (λ r. r.0 < c.saturating_add-next.result → Lists new place r) (λ r lists below. lists (omega (arith, below, c.saturating_add-next.ensures))) rows upto

pub returns-in_default : goal.returns-in_default
returns-in_default c = λ h.
    let rows : List Numbered = c.args.rows.now.contents in
    let new : Index = c.loop.index in
    let all : All (λ r. Lists new c.args.place r) rows = all-reached (λ r. Lists new c.args.place r) c.loop.next rows (sym c.in_default.ensures) (c.loop.invariant h) in
    All-weaker (λ r. Lists new c.args.place r) (λ r. Unit {0} → Lists new c.args.place r) (λ r lists reached. lists) rows all

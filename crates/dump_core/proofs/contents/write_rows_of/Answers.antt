use Rattle.std.proofs.Common.{◌≡◌, ℕ, ◌+◌, Err, List, [], ◌∷◌, ◌++◌, length, ap, sym, ◌∙◌, append_assoc, length-append, arith, rules}
use Rattle.base_core.specs.declared.value.Row.{Row}
use Rattle.dump_core.proofs.WritingLemmas.{row-formed, row-next, row-stop}
use Rattle.dump_core.proofs.contents.write_rows_of.Goals as goal

pub write_row-requires-clause-values : goal.write_row-requires-clause-values
write_row-requires-clause-values g c =
    let done : List (ℕ × Row) = c.loop-row.invariant.0 in
    let row : ℕ × Row = (c.in-Some.field-0-0, c.in-Some.row.now) in
    let rest : List (ℕ × Row) = c.next.new.self in
    let rows : List (ℕ × Row) = c.args.table.now.rows.now.contents in
    let all : rows ≡ done ++ row ∷ rest = sym c.loop-row.invariant.3 ∙ ap (λ t. done ++ t) c.in-Some.ensures.steps in
    row-formed c.args.table.now.name c.args.table.now.owner done rest rows row all c.requires.formed

pub loop-row-preserved : goal.loop-row-preserved
loop-row-preserved g c =
    let done : List (ℕ × Row) = c.loop-row.invariant.0 in
    let row : ℕ × Row = (c.in-Some.field-0-0, c.in-Some.row.now) in
    let rest : List (ℕ × Row) = c.next.new.self in
    let rows : List (ℕ × Row) = c.args.table.now.rows.now.contents in
    let all : rows ≡ done ++ row ∷ rest = sym c.loop-row.invariant.3 ∙ ap (λ t. done ++ t) c.in-Some.ensures.steps in
    let counted : c.loop-row.number ≡ length done = c.loop-row.invariant.4 in (
      done ++ row ∷ [],
      c.in_ok-write_row.ensures.failed,
      row-next c.args.table.now.name c.args.table.now.owner done rest rows row all
          (g.W.Sink.taken c.args.writer.now) (g.W.Sink.taken c.loop-row.writer) (g.W.Sink.taken c.write_row.new.writer) c.loop-row.invariant.2 c.in_ok-write_row.ensures.ends,
      append_assoc done (row ∷ []) rest ∙ sym all,
      omega (arith, counted, length-append done (row ∷ [])),
    )

pub returns-in_err-write_row-clause-ends : goal.returns-in_err-write_row-clause-ends
returns-in_err-write_row-clause-ends g c =
    let done : List (ℕ × Row) = c.loop-row.invariant.0 in
    let row : ℕ × Row = (c.in-Some.field-0-0, c.in-Some.row.now) in
    let rest : List (ℕ × Row) = c.next.new.self in
    let rows : List (ℕ × Row) = c.args.table.now.rows.now.contents in
    let all : rows ≡ done ++ row ∷ rest = sym c.loop-row.invariant.3 ∙ ap (λ t. done ++ t) c.in-Some.ensures.steps in
    let counted : c.loop-row.number ≡ length done = c.loop-row.invariant.4 in
    let same : c.from_residual.result ≡ Err c.in_err-write_row.field-0.0 = search rules in
    row-stop c.args.table.now.name c.args.table.now.owner done rest rows row all
    (g.W.Sink.taken c.args.writer.now) (g.W.Sink.taken c.loop-row.writer) (g.W.Sink.taken c.write_row.new.writer) c.loop-row.invariant.2
    (c.loop-row.number + 1) (ap (λ (n : ℕ). n + 1) counted) c.from_residual.result c.in_err-write_row.field-0.0 same c.in_err-write_row.ensures.ends

use Rattle.std.proofs.Common.{sym, ◌∙◌}
use Rattle.std.proofs.lemmas.Bool.{false≢true}
use Rattle.tables_core.proofs.ColumnLemmas.{differ-again, differ-once}
use Rattle.tables_core.proofs.columns.columns_differ.Goals as goal

pub returns-then-is_named : goal.returns-then-is_named
returns-then-is_named c =
    let again = differ-again c.args.columns.now c.loop-first.rest.now c.in-Some.others.now c.in-Some.first.now c.in-Some.ensures.cases.0 c.loop-first.invariant (sym c.is_named.ensures ∙ c.if-is_named.true) in
    (λ no. absurd (false≢true no), λ differ. sym again ∙ differ)

pub loop-first-preserved : goal.loop-first-preserved
loop-first-preserved c =
    differ-once c.args.columns.now c.loop-first.rest.now c.in-Some.others.now c.in-Some.first.now c.in-Some.ensures.cases.0 c.loop-first.invariant (sym c.is_named.ensures ∙ c.if-is_named.false)

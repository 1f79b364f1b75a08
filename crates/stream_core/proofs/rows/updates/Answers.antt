use Rattle.std.proofs.Common.{◌≡◌, ◌∙◌, [], subst, sym}
use Rattle.std.proofs.lemmas.List.{nil_from_length}
use Rattle.tables_core.specs.Contents.{table_of}
use Rattle.stream_core.proofs.Updating.{SoFar, so_far-ends}
use Rattle.stream_core.proofs.rows.updates.Goals as goal

pub returns : goal.returns
returns c =
    let found = table_of c.args.tables.now.tables c.args.table in
    let left = c.loop-number.number-iterator.rest in
    let none : left.items ≡ [] = nil_from_length left.items (sym left.ok.0 ∙ c.in-None.ensures.steps.0) in
    so_far-ends c.args.table c.args.sets.now c.args.rows.items found c.loop-number.all.items
    (subst (λ rest. SoFar c.args.table c.args.sets.now c.args.rows.items found rest c.loop-number.all.items) none c.loop-number.invariant)

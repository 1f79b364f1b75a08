use Rattle.std.proofs.Common.{length, ap, sym, ◌∙◌}
use Rattle.std.specs.Option.{option_map}
use Rattle.capture_core.specs.Filling.{heads, completed_from}
use Rattle.capture_core.proofs.FillingLemmas.{completed-closed, completed-whole, heads-some, head_seen}
use Rattle.capture_core.proofs.GivenLemmas.{given-at}
use Rattle.capture_core.proofs.filling.Filling.finish.Goals as goal

pub loop-table-preserved : goal.loop-table-preserved
loop-table-preserved c =
    let d = c.args.tables.now in
    let f = c.loop-table.self in
    let hs = heads (length d.rest) d.tables in
    let found = sym c.next.ensures.head ∙ ap (option_map head_seen) c.in-Some.is in
    let lt = heads-some d.tables (length d.rest) (length f.whole) (head_seen c.in-Some.table) found in
    ap (completed_from d) c.in_ok-close.ensures.ok
    ∙ (completed-closed hs f (head_seen c.in-Some.table) d.rest found lt (given-at d.rest (length f.whole) c.requires) ∙ c.loop-table.invariant)

pub returns-clause-whole : goal.returns-clause-whole
returns-clause-whole c =
    let d = c.args.tables.now in
    let none = sym c.next.ensures.head ∙ ap (option_map head_seen) c.in_default.is in
    sym (completed-whole (heads (length d.rest) d.tables) c.loop-table.self d.rest none) ∙ c.loop-table.invariant

use Rattle.std.proofs.Common.{length, ap, sym, ◌∙◌}
use Rattle.std.specs.Option.{option_map}
use Rattle.capture_core.specs.Filling.{heads, completed_from}
use Rattle.capture_core.proofs.FillingLemmas.{completed-closed, heads-there, head_seen}
use Rattle.capture_core.proofs.TakingLemmas.{either_way}
use Rattle.capture_core.proofs.filling.Filling.close_next.Goals as goal

pub unreachable-requires : goal.unreachable-requires
unreachable-requires c =
    let d = c.args.tables.now in
    heads-there d.tables (length d.rest) (length c.args.self.now.whole) c.requires.next c.next.ensures.there (sym c.next.ensures.head ∙ ap (option_map head_seen) c.in-None.is)

pub returns-clause-same : goal.returns-clause-same
returns-clause-same c =
    let d = c.args.tables.now in
    let f = c.args.self.now in
    let found = sym c.next.ensures.head ∙ ap (option_map head_seen) c.in-Some.is in
    either_way c.close.result c.close.ensures.ok c.close.ensures.err
    (λ made. ap (completed_from d) made ∙ completed-closed (heads (length d.rest) d.tables) f (head_seen c.in-Some.table) d.rest found c.requires.next c.requires.given)
    (λ kept. ap (completed_from d) kept)

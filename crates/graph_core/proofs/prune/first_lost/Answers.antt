use Rattle.std.proofs.Common.{sym, ◌∙◌}
use Rattle.links_core.specs.Links.{comes_from}
use Rattle.graph_core.proofs.PruningLemmas.{find-splits, settled-first, settled-none}
use Rattle.graph_core.proofs.prune.first_lost.Goals as goal

pub returns-in_default-clause-none : goal.returns-in_default-clause-none
returns-in_default-clause-none c =
    settled-none c.args.owner c.args.links.now.links c.args.user c.args.atom (sym c.first_from.ensures ∙ c.in_default.is)

pub returns-then-is_supported-clause-none : goal.returns-then-is_supported-clause-none
returns-then-is_supported-clause-none c =
    settled-first c.args.owner c.args.links.now.links c.args.user c.args.atom c.in-Some.first c.requires (sym c.in-Some.ensures)
    (sym c.is_supported.ensures ∙ c.if-is_supported.true)

pub returns-clause-found : goal.returns-clause-found
returns-clause-found c =
    (find-splits (comes_from c.args.user c.args.atom) c.args.links.now.links c.in-Some.first (sym c.in-Some.ensures)).0

pub returns-clause-made : goal.returns-clause-made
returns-clause-made c =
    (find-splits (comes_from c.args.user c.args.atom) c.args.links.now.links c.in-Some.first (sym c.in-Some.ensures)).1

use Rattle.std.proofs.Common.{◌≡◌, ◌∙◌, sym, Some, None}
use Rattle.std.specs.List.{find}
use Rattle.links_core.specs.Links.{goes_to}
use Rattle.graph_core.specs.Pruning.{is_between}
use Rattle.graph_core.proofs.PruningLemmas.{find-splits, find-none}
use Rattle.graph_core.proofs.NamedLemmas.{filter-taken_out, none_gone}
use Rattle.graph_core.proofs.revocation.remove_between.Goals as goal

pub take_out-requires : goal.take_out-requires
unfolding goes_to
take_out-requires c =
    (find-splits (is_between c.args.by (Some c.args.user) c.args.atom) c.loop-link.links.links c.in-Some.link (sym c.in-Some.ensures)).0

pub loop-link-preserved : goal.loop-link-preserved
unfolding goes_to
loop-link-preserved c =
    let test = is_between c.args.by (Some c.args.user) c.args.atom in
    let passes = (find-splits test c.loop-link.links.links c.in-Some.link (sym c.in-Some.ensures)).1 in
    record {
      links = filter-taken_out test c.in-Some.link c.loop-link.links.links c.take_out.new.self.links c.take_out.ensures.taken passes ∙ c.loop-link.invariant.links;
      next = c.take_out.ensures.next ∙ c.loop-link.invariant.next;
      rest = c.take_out.ensures.rest ∙ c.loop-link.invariant.rest;
    }

pub returns-clause-links : goal.returns-clause-links
unfolding goes_to
returns-clause-links c =
    let test = is_between c.args.by (Some c.args.user) c.args.atom in
    let links = c.loop-link.links.links in
    let none_found : find test links ≡ None = sym c.first_between.ensures ∙ c.in_default.is in
    sym (none_gone test links (find-none test links none_found)) ∙ c.loop-link.invariant.links

use Rattle.std.proofs.Common.{◌≡◌, ◌++◌, map}
use Rattle.links_core.specs.Links.{links_in, standing_of_link}
use Rattle.links_core.proofs.walk.standings_of.Given as goal

-- the standings so far, and those of the links to come, are all
abbrev pub invariant-loop-link : goal.invariant-loop-link
invariant-loop-link l =
    l.standings.items ++ map standing_of_link (links_in l.link-iterator) ≡ map standing_of_link (links_in l.store.contents)

use Rattle.std.proofs.Common.{rules, tests}
use Rattle.std.specs.Arc.{arc_value}
use Rattle.std.proofs.lemmas.Iterator.Search.{find_from_yields_List}
use Rattle.catalogue_core.specs.Kept.{bears}
use Rattle.catalogue_core.proofs.RingLemmas.{YieldsList-from_rev_ring}
use Rattle.catalogue_core.proofs.catalogue.newest.Goals as goal

pub returns : goal.returns
returns c = find_from_yields_List (λ arc. bears c.args.number (arc_value arc)) _ _ _ c.find.ensures.ran (YieldsList-from_rev_ring c.args.images.now.items cc) (λ x b q k. search (rules, tests))

use Rattle.std.proofs.Common.{rules, tests}
use Rattle.std.specs.Arc.{arc_value}
use Rattle.std.proofs.lemmas.Iterator.{items_from_collect, YieldsList-from_map}
use Rattle.std.proofs.lemmas.Iterator.Consumers.{YieldsList-from_rest, YieldsList-at}
use Rattle.catalogue_core.specs.Kept.{number_and_point}
use Rattle.catalogue_core.proofs.catalogue.entries.Goals as goal

pub returns : goal.returns
returns c =
    let all = items_from_collect c.collect.result c.collect.ensures.ran (YieldsList-from_map _ (λ arc. number_and_point (arc_value arc)) (YieldsList-at c.map.ensures.source (YieldsList-from_rest c.args.images.now.items c.iter.ensures.rest)) c.map.ensures.closure (λ x r q k. search (rules, tests))) in
    rw c.in_ok-listed.was at all

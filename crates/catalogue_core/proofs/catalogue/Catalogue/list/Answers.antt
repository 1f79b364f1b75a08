use Rattle.std.proofs.Common.{map, ap, ◌∙◌}
use Rattle.std.specs.Arc.{arc_value}
use Rattle.std.proofs.lemmas.Result.{IfOk-weaker}
use Rattle.catalogue_core.specs.Kept.{number_and_point}
use Rattle.catalogue_core.proofs.RingLemmas.{map-map}
use Rattle.catalogue_core.proofs.catalogue.Catalogue.list.Goals as goal

pub returns : goal.returns
returns c = IfOk-weaker c.entries.result _ _ (λ listed made. made ∙ (map-map arc_value number_and_point c.self.inside.images.items ∙ ap (map number_and_point) c.self.view_is)) c.entries.ensures

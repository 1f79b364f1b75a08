use Rattle.std.proofs.Common.{ap, ◌∙◌, reverse}
use Rattle.std.specs.List.{find}
use Rattle.std.specs.Option.{option_map}
use Rattle.std.specs.Arc.{arc_value}
use Rattle.catalogue_core.specs.Kept.{bears}
use Rattle.catalogue_core.proofs.RingLemmas.{find-map, map-reverse}
use Rattle.catalogue_core.proofs.catalogue.Catalogue.find.Goals as goal

pub returns : goal.returns
returns c =
    let items = c.self.inside.images.items in
    let number = c.args.number in
    ap (option_map arc_value) c.newest.ensures
    ∙ (find-map arc_value (bears number) (reverse items)
    ∙ (ap (find (bears number)) (map-reverse arc_value items)
    ∙ ap (λ images. find (bears number) (reverse images)) c.self.view_is))

use Rattle.std.proofs.Common.{◌++◌, ◌∷◌, [], ◌-◌, length, drop, map, ap, sym, ◌∙◌}
use Rattle.std.specs.Arc.{arc_value}
use Rattle.std.proofs.lemmas.List.{drop-map, length-map, map-append}
use Rattle.catalogue_core.specs.Kept.{last_eight}
use Rattle.catalogue_core.proofs.catalogue.Catalogue.add.Goals as goal

pub returns-clause-kept : goal.returns-clause-kept
returns-clause-kept c =
    let items = c.self.inside.images.items in
    let more = items ++ c.args.image ∷ [] in
    ap (λ b. map arc_value b.items) c.push_back.ensures.items
    ∙ (ap (λ n. map arc_value (drop (length more - n) more)) c.self.invariant
    ∙ (sym (drop-map arc_value (length more - 8) more)
    ∙ (ap (λ n. drop (n - 8) (map arc_value more)) (sym (length-map more arc_value))
    ∙ (ap last_eight (map-append arc_value items (c.args.image ∷ []))
    ∙ ap (λ images. last_eight (images ++ arc_value c.args.image ∷ [])) c.self.view_is))))

-- Alternatives along a descent.
use Rattle.std.proofs.Common.{◌≡◌, ◌++◌, ◌∷◌, [], List, slice_get, sym, ap, ◌∙◌, append_assoc}
use Rattle.std.specs.Option.{option_map_or}
use Rattle.base_core.specs.declared.value.Moment.{Moment}
use Rattle.explain_core.specs.Alternatives.{alternatives, alternatives_to}
use Rattle.explain_core.specs.declared.alternative.Alternative.{Alternative}
use Rattle.explain_core.specs.declared.life.Life.{Life}

-- those that are found, and those of what is left of a descent, once its first is gone over
pub alternatives-step : (at : Moment) (lives rest behind : List Life) (support : Life) (found more : List Alternative) (whole : List Alternative)
    → rest ≡ support ∷ behind → more ≡ found ++ option_map_or (alternatives_to at lives support) (slice_get behind 0) []
    → found ++ alternatives at lives rest ≡ whole → more ++ alternatives at lives behind ≡ whole
alternatives-step at lives rest behind support found more whole is grown so_far =
    let added = option_map_or (alternatives_to at lives support) (slice_get behind 0) [] in
    ap (λ k. k ++ alternatives at lives behind) grown ∙ append_assoc found added (alternatives at lives behind)
    ∙ ap (λ k. found ++ alternatives at lives k) (sym is) ∙ so_far

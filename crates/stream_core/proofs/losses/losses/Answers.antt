use Rattle.std.proofs.Common.{◌≡◌, ◌++◌, [], map, sym, ap, subst, ◌∙◌, append-nil, drop}
use Rattle.std.proofs.lemmas.List.{drop_all}
use Rattle.grants_core.specs.declared.grant.Grant.{Grant}
use Rattle.graph_core.specs.Indices.{standing_of}
use Rattle.stream_core.specs.Effects.{AreEffectsOf}
use Rattle.stream_core.proofs.Edits.{up-from}
use Rattle.stream_core.proofs.GrantLosses.{AreEffectsOf-losses, effect_of, grant_losses, holding, losses_of}
use Rattle.stream_core.proofs.losses.losses.Goals as goal

pub returns : goal.returns
returns c =
    let before = c.args.before.now in
    let after = c.args.after.now in
    let l = c.loop-standing in
    let none : drop l.standing-index before ≡ [] = drop_all l.standing-index before c.loop-standing-test.false in
    let all_is : l.all.items ≡ map effect_of (losses_of before after) =
    sym (append-nil l.all.items) ∙ ap (λ gs. l.all.items ++ map effect_of (losses_of gs l.rest.now)) (sym none) ∙ l.invariant in
    λ tables given left given_is left_is reduced rising.
    let same : map effect_of (losses_of before after) ≡ map effect_of (grant_losses given left) =
    ap (λ gs. map effect_of (losses_of gs after)) given_is ∙ ap (λ gs. map effect_of (losses_of (map standing_of given) gs)) left_is in
    subst (λ all. AreEffectsOf (holding tables given) (holding tables left) all) (sym (all_is ∙ same))
    (AreEffectsOf-losses tables given left reduced (up-from (λ (g : Grant). g.number) given rising))

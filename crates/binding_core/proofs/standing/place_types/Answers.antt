use Rattle.std.proofs.Common.{◌+◌, ℕ, ap, ◌∙◌}
use Rattle.std.proofs.lemmas.List.{length_push}
use Rattle.binding_core.proofs.Stands.{place_more}
use Rattle.binding_core.proofs.standing.place_types.Goals as goal

pub loop-place-preserved : goal.loop-place-preserved
loop-place-preserved c =
    let found = c.loop-place.types.items in
    record {
      many = rw c.in_ok-push.ensures.items (length_push found c.place_type.result ∙ ap (λ (n : ℕ). n + 1) c.loop-place.invariant.many);
      each = rw c.in_ok-push.ensures.items
          (place_more c.args.columns.now c.args.ones.now c.args.others.now found c.loop-place.place c.place_type.result c.loop-place.invariant.many c.loop-place.invariant.each c.place_type.ensures);
    }

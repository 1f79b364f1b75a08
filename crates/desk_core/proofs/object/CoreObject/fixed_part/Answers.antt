use Rattle.std.proofs.Common.{◌≡◌, ◌∙◌, sym, ap}
use Rattle.desk_core.specs.Guarded.{CoreState, snapshot}
use Rattle.desk_core.proofs.object.CoreObject.fixed_part.Goals as goal

pub returns : goal.returns
returns g c =
    let chunk = c.self.invariant.0 in
    let limits = c.self.invariant.1 in
    let same : c.self.inside.basis ≡ record c.self.inside.basis { chunk = c.self.inside.system.value.chunk; limits = c.self.inside.system.value.limits } =
    λ i. record c.self.inside.basis { chunk = sym chunk i; limits = sym limits i } in
    ap snapshot (c.of.ensures ∙ same ∙ ap (λ (x : CoreState g.row.K.Denot). record x.origin { chunk = x.world.chunk; limits = x.world.limits }) c.self.view_is)

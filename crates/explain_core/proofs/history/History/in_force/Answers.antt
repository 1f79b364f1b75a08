use Rattle.std.proofs.Common.{arith, ◌∙◌, ap, sym, filter, map, is_none, List}
use Rattle.std.proofs.lemmas.Grind.{common_steps}
use Rattle.std.proofs.lemmas.List.{take_all}
use Rattle.grants_core.specs.History.{in_force_after}
use Rattle.explain_core.specs.Life.{left}
use Rattle.explain_core.specs.declared.life.Life.{Life}
use Rattle.explain_core.proofs.LifeLemmas.{in_force-left}
use Rattle.explain_core.proofs.history.History.in_force.Goals as goal

pub returns : goal.returns
returns c =
    let changes = c.self.inside.changes.items in
    let all = take_all c.loop-life.life-index c.deref-life-items.result.now c.loop-life-test.false ∙ c.deref-life-items.ensures.value ∙ c.self.invariant.lives_are in
    c.loop-life.invariant ∙ ap (λ (k : List Life). map left (filter (λ life. is_none life.fell) k)) all
    ∙ sym (in_force-left changes c.self.invariant.lawful) ∙ ap in_force_after c.self.view_is

pub loop-life-preserved : goal.loop-life-preserved
loop-life-preserved c = grind (arith, common_steps)

use Rattle.std.proofs.Common.{subst, refl, ◌∙◌}
use Rattle.system_core.specs.World.{World, IsLawfulWorld}
use Rattle.desk_core.specs.Acting.{event_of, Acts}
use Rattle.desk_core.specs.Guarded.{CoreState}
use Rattle.desk_core.proofs.Taking.{steps_at, act_stands}
use Rattle.desk_core.proofs.object.Core.carry_out.Goals as goal

pub invariant_of-self : goal.invariant_of-self
invariant_of-self g c =
    let K = g.K.Keeper in
    let old = c.self.inside.system.value in
    let new = c.take_parting-parting.new.self in
    let k = c.self.inside.keeper in
    let k' = c.act-acted.new.keeper in
    let last = c.take_parting-parting.ensures ∙ c.deref_mut-2.ensures.value in
    let steps = steps_at K c.deref_mut.result.now old c.act-acted.new.system new c.event.result c.event.result c.act-acted.result k k' c.deref_mut.ensures.value refl last c.act-acted.ensures in
    act_stands K old new c.event.result c.act-acted.result c.self.inside.basis k k' c.self.invariant steps

pub returns : goal.returns
returns g c =
    let K = g.K.Keeper in
    let old = c.self.inside.system.value in
    let new = c.take_parting-parting.new.self in
    let event = event_of c.args.pass c.args.ask in
    let k = c.self.inside.keeper in
    let k' = c.act-acted.new.keeper in
    let last = c.take_parting-parting.ensures ∙ c.deref_mut-2.ensures.value in
    let steps = steps_at K c.deref_mut.result.now old c.act-acted.new.system new c.event.result event c.act-acted.result k k' c.deref_mut.ensures.value c.event.ensures.event last c.act-acted.ensures in
    let stands = act_stands K old new event c.act-acted.result c.self.inside.basis k k' c.self.invariant steps in
    subst (λ (x : CoreState g.row.K.Denot). Acts K x c.args.pass c.args.ask c.act-acted.result (record { world = new; origin = c.self.inside.basis; keeper = k' }))
    c.self.view_is
    (record {
      lawful = subst (λ (w : World). IsLawfulWorld w) c.deref.ensures c.journal.ensures.lawful;
      steps = steps;
      origin = refl;
      has_kept = stands.3;
    })

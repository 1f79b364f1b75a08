use Rattle.std.proofs.Common.{sym, subst}
use Rattle.desk_core.specs.declared.object.Purpose.{Purpose}
use Rattle.desk_core.specs.Acting.{MayBeAsked, ActsFor}
use Rattle.desk_core.proofs.object.CoreObject.act.Goals as goal

pub returns-in-Look : goal.returns-in-Look
returns-in-Look g c =
    subst (λ (p : Purpose). ActsFor g.K.Keeper c.args.self.now c.args.pass p c.looked_at.result c.args.self.now) (sym c.in-Look.is) c.looked_at.ensures

pub tended-requires : goal.tended-requires
tended-requires g c = subst (MayBeAsked g.K.Keeper c.args.self.now) c.in-Tend.is c.requires

pub returns-in-Find : goal.returns-in-Find
returns-in-Find g c =
    subst (λ (p : Purpose). ActsFor g.K.Keeper c.args.self.now c.args.pass p c.found.result c.args.self.now) (sym c.in-Find.is) c.found.ensures

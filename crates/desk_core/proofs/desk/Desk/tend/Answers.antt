use Rattle.std.proofs.Common.{List, sym, subst}
use Rattle.turnstile.specs.Logs.{StartsWith}
use Rattle.system_core.specs.declared.machine.event.Entry.{Entry}
use Rattle.desk_core.specs.Guarded.{DeskLock, origin_of}
use Rattle.desk_core.specs.Kept.{HasKept}
use Rattle.desk_core.proofs.Taking.{may_tend}
use Rattle.desk_core.proofs.desk.Desk.tend.Goals as goal

pub turn-requires-clause-may : goal.turn-requires-clause-may
turn-requires-clause-may g c =
    let May : DeskLock g.row.K.Denot → Type 0 = λ d. (journal : List Entry) (keeper : g.row.K.Denot) → StartsWith journal c.args.pass.now.seen → HasKept g.K.Keeper (origin_of d) journal keeper → g.K.Keeper.may_run keeper c.args.errand in
    may_tend g.K.Keeper c.self.inside.turnstile c.args.pass.now c.args.errand (subst May (sym c.self.view_is) c.requires.may)

use Rattle.std.proofs.Common.{◌≡◌, Ok, sym, subst}
use Rattle.system_core.specs.Journal.{verdict_at}
use Rattle.system_core.specs.World.{World}
use Rattle.system_core.specs.Standing.{LedgerState, Stands}
use Rattle.system_core.proofs.Holding.{by_result}
use Rattle.system_core.proofs.Captured.{stands-entered}
use Rattle.system_core.proofs.machine.system.System.change.Goals as goal

pub invariant_of-self : goal.invariant_of-self
invariant_of-self c =
    let At : LedgerState → Type 0 = λ l. Stands c.self.inside.chunk l c.self.inside.capture c.self.inside.catalogue in
    by_result c.change.result c.change.ensures.ok c.change.ensures.err
    (λ e. subst At (sym e) (stands-entered c.self.inside.chunk c.self.inside.ledger c.args.entry c.self.inside.capture c.self.inside.catalogue c.self.invariant))
    (λ e. subst At (sym e) c.self.invariant)

pub change-requires-clause-allowed : goal.change-requires-clause-allowed
change-requires-clause-allowed c =
    subst (λ (v : World). verdict_at v.limits v.journal c.args.entry.user c.args.entry.statement ≡ Ok tt) (sym c.self.view_is) c.requires.allowed

use Rattle.std.proofs.lemmas.Slice.Eq.{slice_eq-Decides}
use Rattle.grants_core.specs.History.{in_force_after}
use Rattle.grants_core.proofs.SameGrant.{grant-Decides}
use Rattle.grants_core.proofs.history.audit.Goals as goal

pub returns : goal.returns
returns c = slice_eq-Decides grant-Decides c.args.grants.now (in_force_after c.args.changes.now) c.are_same.result (rw (c.deref.ensures.value, c.in_ok-in_force.ensures) at c.are_same.ensures)

use Rattle.std.proofs.Common.{◌<◌, ◌^◌, arith, length}
use Rattle.system_core.specs.Journal.{changes, rights_at}
use Rattle.system_core.proofs.Counting.{in_force-few}
use Rattle.system_core.proofs.machine.ledger.Ledger.rights.Goals as goal

pub returns-clause-few : goal.returns-clause-few
returns-clause-few c =
    let few : length (rights_at c.self.inside.journal.items).in_force < 2 ^ 62 =
    omega (arith, in_force-few (changes c.self.inside.journal.items), c.self.invariant.sound.made_few, c.self.invariant.sound.few, c.self.inside.limits.changes_within) in
    rw (← c.self.view_is) few

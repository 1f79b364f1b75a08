use Rattle.std.proofs.Common.{◌<◌, ◌^◌, ap, arith, length}
use Rattle.capture_core.specs.Image.{row_total}
use Rattle.system_core.specs.Journal.{changes, rights_at}
use Rattle.system_core.proofs.Counting.{in_force-few}
use Rattle.system_core.proofs.machine.ledger.Ledger.begin.Goals as goal

pub begin-requires : goal.begin-requires
begin-requires c =
    let journal = c.self.inside.journal.items in
    let few : length (rights_at journal).in_force < 2 ^ 62 =
    omega (arith, in_force-few (changes journal), c.self.invariant.sound.made_few, c.self.invariant.sound.few, c.self.inside.limits.changes_within) in
    omega (arith, few, ap row_total c.self.invariant.tables_of, ap length c.self.invariant.agree.in_force, c.self.invariant.sound.rows_few, c.self.invariant.sound.few, c.self.inside.limits.changes_within)

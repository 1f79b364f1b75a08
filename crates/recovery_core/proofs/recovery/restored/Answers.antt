use Rattle.std.proofs.Common.{◌≡◌, rules, arith}
use Rattle.recovery_core.proofs.Made.{made_further}
use Rattle.recovery_core.proofs.Restored.{known_restored}
use Rattle.recovery_core.proofs.recovery.restored.Goals as goal

pub returns-clause-restores : goal.returns-clause-restores
returns-clause-restores g c =
    let none : c.in_ok-read.read.skips ≡ 0 = search rules in
    known_restored c.args.chunk c.args.limits (g.F.Folder.state c.args.folder.now) c.args.points.now c.in_ok-base.base c.in_ok-read.read c.in_ok-base.ensures.reads c.in_ok-read.ensures.further c.in_ok-read.ensures.sound none c.in_ok-read.ensures.reads

pub returns-clause-under : goal.returns-clause-under
returns-clause-under g c =
    let none : c.in_ok-read.read.skips ≡ 0 = search rules in
    let at = c.in_ok-read.ensures.sound.at_is in
    omega arith

pub returns-clause-made : goal.returns-clause-made
returns-clause-made g c =
    made_further c.args.chunk c.args.limits c.in_ok-base.base.recovered.system c.in_ok-read.read.recovered.system c.in_ok-base.ensures.made c.in_ok-read.ensures.sound.made c.in_ok-read.ensures.further.world_is

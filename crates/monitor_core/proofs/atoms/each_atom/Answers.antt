use Rattle.std.proofs.Common.{◌∙◌, sym}
use Rattle.monitor_core.specs.Atoms.{atoms_of_one}
use Rattle.monitor_core.proofs.Checking.{each-flat_map}
use Rattle.monitor_core.proofs.atoms.each_atom.Goals as goal

pub returns : goal.returns
returns g c = c.each_privilege.ensures ∙ sym (each-flat_map (atoms_of_one c.args.table c.args.columns.now) (g.C.AtomCheck.check_of c.args.check.now) c.args.privileges.now)

use Rattle.std.proofs.Common.{◌∙◌, sym}
use Rattle.base_core.specs.Privileges.{to_select, to_update}
use Rattle.monitor_core.specs.Atoms.{columns_given}
use Rattle.monitor_core.proofs.Checking.{each-map}
use Rattle.monitor_core.proofs.atoms.each_of_one.Goals as goal

pub returns-in-Select : goal.returns-in-Select
returns-in-Select g c = rw c.in-Select.is (c.each_listed.ensures ∙ sym (each-map (to_select c.args.table) (g.C.AtomCheck.check_of c.args.check.now) (columns_given c.args.columns.now c.in-Select.list)))

pub returns-in-Update : goal.returns-in-Update
returns-in-Update g c = rw c.in-Update.is (c.each_listed-in-Update.ensures ∙ sym (each-map (to_update c.args.table) (g.C.AtomCheck.check_of c.args.check.now) (columns_given c.args.columns.now c.in-Update.list)))

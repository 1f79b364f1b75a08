use Rattle.std.proofs.Common.{◌∙◌, sym}
use Rattle.base_core.specs.declared.name.Name.{Name}
use Rattle.base_core.specs.declared.value.Column.{Column}
use Rattle.monitor_core.specs.Atoms.{of_column}
use Rattle.monitor_core.proofs.Checking.{each-map}
use Rattle.monitor_core.proofs.atoms.each_listed.Goals as goal

pub returns-in-None : goal.returns-in-None
returns-in-None g c = rw c.in-None.is (c.each_column.ensures ∙ sym (each-map (λ (column : Column). column.name) (λ (column : Name). g.C.AtomCheck.check_of c.args.check.now (of_column c.args.by c.args.table column)) c.args.columns.now))

pub returns-in-Some : goal.returns-in-Some
returns-in-Some g c = rw (c.in-Some.is, ← c.as_slice.ensures.items) c.each_column-in-Some.ensures

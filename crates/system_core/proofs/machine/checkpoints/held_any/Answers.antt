use Rattle.std.proofs.Common.{◌∙◌, sym}
use Rattle.base_core.specs.declared.value.Column.{Column}
use Rattle.export_core.specs.Export.{held_then}
use Rattle.system_core.proofs.Exported.{any_marked}
use Rattle.system_core.proofs.machine.checkpoints.held_any.Goals as goal

pub returns : goal.returns
returns c = c.holds_one.ensures ∙ sym (any_marked (λ (column : Column). held_then c.args.image.now c.args.user.now c.args.table column.name) c.args.columns.now)

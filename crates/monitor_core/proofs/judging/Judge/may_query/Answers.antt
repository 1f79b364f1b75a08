use Rattle.std.proofs.Common.{◌∙◌, sym, ap, List, None}
use Rattle.base_core.specs.Privileges.{to_select}
use Rattle.base_core.specs.declared.name.Name.{Name}
use Rattle.base_core.specs.declared.value.Column.{Column}
use Rattle.monitor_core.specs.Atoms.{columns_given}
use Rattle.monitor_core.specs.Verdict.{Check, each, holds_privilege}
use Rattle.monitor_core.proofs.Checking.{each-map}
use Rattle.monitor_core.proofs.judging.Judge.may_query.Goals as goal

pub returns-in-None : goal.returns-in-None
returns-in-None g c =
    let held : Name → Check = λ column. holds_privilege c.args.self.now c.args.user.now (to_select c.args.table column) in
    rw c.in-None.is (c.may_select.ensures
    ∙ sym (each-map (λ (column : Column). column.name) held c.args.columns.now)
    ∙ ap (λ (columns : List Column). each (columns_given columns None) held) c.requires.columns)

pub returns-in-Some : goal.returns-in-Some
returns-in-Some g c = rw (c.in-Some.is, ← c.as_slice.ensures.items) c.may_select-in-Some.ensures

use Rattle.std.proofs.Common.{true, ◌||◌, length, replicate, sym, ap, ◌∙◌}
use Rattle.std.specs.List.{list_any}
use Rattle.base_core.specs.Privileges.{to_select}
use Rattle.base_core.specs.declared.privilege.Kind.TheVariants.{Select}
use Rattle.base_core.specs.declared.value.Column.{Column}
use Rattle.grants_core.specs.Content.{gives}
use Rattle.export_core.specs.Export.{holds_now}
use Rattle.export_core.proofs.Cutting.{all-map}
use Rattle.export_core.proofs.judgement.marked_now.Goals as goal

-- the owner holds all
pub returns-then-owns : goal.returns-then-owns
returns-then-owns g c =
    let now = g.A.Authority.content c.args.rights.now in
    let user = c.args.user.now in
    let t = c.args.table.now in
    c.all.ensures
    ∙ ap (λ columns. replicate (length columns) true) c.as_slice-columns.ensures
    ∙ all-map (λ (column : Column). holds_now now user t.name column.name) t.columns
    (λ column. ap (λ b. b || list_any (gives user (to_select t.name column.name)) now.in_force) (sym (c.owns.ensures (Select column.name)) ∙ c.if-owns.true))

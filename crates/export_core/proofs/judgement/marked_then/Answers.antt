use Rattle.std.proofs.Common.{true, ◌||◌, length, replicate, sym, ap, ◌∙◌}
use Rattle.std.specs.List.{list_any}
use Rattle.base_core.specs.Privileges.{to_select}
use Rattle.base_core.specs.declared.privilege.Kind.TheVariants.{Select}
use Rattle.base_core.specs.declared.value.Column.{Column}
use Rattle.grants_core.specs.Content.{gives}
use Rattle.export_core.specs.Export.{held_then}
use Rattle.export_core.proofs.Cutting.{all-map}
use Rattle.export_core.proofs.judgement.marked_then.Goals as goal

-- the owner held all
pub returns-then-owned_then : goal.returns-then-owned_then
returns-then-owned_then c =
    let image = c.args.image.now in
    let user = c.args.user.now in
    let t = c.args.table.now in
    c.all.ensures
    ∙ ap (λ columns. replicate (length columns) true) c.as_slice-columns.ensures
    ∙ all-map (λ (column : Column). held_then image user t.name column.name) t.columns
    (λ column. ap (λ b. b || list_any (gives user (to_select t.name column.name)) image.grants) (sym (c.owned_then.ensures (Select column.name)) ∙ c.if-owned_then.true))

use Rattle.std.proofs.Common.{◌≡◌, Bool, ◌&&◌, ◌||◌, List, [], ◌∷◌, refl, ap, ◌∙◌, sym}
use Rattle.std.specs.List.{list_any}
use Rattle.std.proofs.Math.Bool.{and_comm}
use Rattle.base_core.specs.declared.value.Column.{Column}
use Rattle.export_core.specs.Export.{held_then, holds_now}
use Rattle.system_core.proofs.Exported.{any_marked}
use Rattle.system_core.proofs.machine.checkpoints.holds_any.Goals as goal

any_alike : {A : Type 0} (p q : A → Bool) (xs : List A) → ((x : A) → p x ≡ q x) → list_any p xs ≡ list_any q xs
any_alike p q [] same = refl
any_alike p q (x ∷ xs) same = ap (λ b. b || list_any p xs) (same x) ∙ ap (λ b. q x || b) (any_alike p q xs same)

pub returns : goal.returns
returns g c =
    let then : Column → Bool = λ column. held_then c.args.image.now c.args.user.now c.args.table column.name in
    let now : Column → Bool = λ column. holds_now (g.A.Authority.content c.args.rights.now) c.args.user.now c.args.table column.name in
    c.any_listed.ensures
    ∙ any_alike (λ (column : Column). now column && then column) (λ (column : Column). then column && now column) c.args.columns.now (λ column. and_comm (now column) (then column))
    ∙ sym (any_marked (λ (column : Column). then column && now column) c.args.columns.now)

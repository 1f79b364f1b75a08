use Rattle.std.proofs.Common.{◌≡◌, Bool, true, false, List, refl, sym, subst}
use Rattle.base_core.specs.Filter.{is_chosen}
use Rattle.base_core.specs.declared.value.Value.{Value}
use Rattle.tables_core.specs.Bounding.{AdmitsRow}
use Rattle.tables_core.proofs.scan.Scan.choose.Goals as goal

-- what a row must pass to be chosen, and does not
not-chosen : (admitted chosen : Bool) → admitted ≡ false → (chosen ≡ true → admitted ≡ true) → admitted ≡ chosen
not-chosen admitted true fails must = must refl
not-chosen admitted false fails must = fails

pub returns-else-admit : goal.returns-else-admit
returns-else-admit c =
    let scan = c.args.self.now in
    let chosen = is_chosen scan.conditions.now.columns.now scan.conditions.now.items.now c.args.row.now.values in
    not-chosen c.admit.result chosen c.if-admit.false
    (λ is. c.admit.ensures (subst (λ (row : List Value). AdmitsRow scan.bounds row) (sym c.as_slice.ensures) (scan.found c.args.row.now.values is)))

use Rattle.std.proofs.Common.{◌≡◌, ◌++◌, List, [], ◌∷◌, map, OnOk, refl, ap, subst}
use Rattle.base_core.specs.declared.name.Name.{Name}
use Rattle.base_core.specs.declared.privilege.Atom.{Atom}
use Rattle.base_core.specs.declared.value.Column.{Column}
use Rattle.monitor_core.specs.Atoms.{of_column}
use Rattle.system_core.proofs.machine.atoms.push_listed.Goals as goal

by_name : (f : Name → Atom) (columns : List Column) → map (λ (c : Column). f c.name) columns ≡ map f (map (λ (c : Column). c.name) columns)
by_name f [] = refl
by_name f (c ∷ more) = ap (λ l. f c.name ∷ l) (by_name f more)

pub returns-in-None-clause-atoms : goal.returns-in-None-clause-atoms
returns-in-None-clause-atoms c =
    let Made : List Atom → Type 0 = λ made. OnOk c.push_columns.result (c.push_columns.new.atoms.items ≡ c.args.atoms.now.items ++ made) in
    rw c.in-None.is (subst Made (by_name (of_column c.args.by c.args.table) c.args.columns.now) c.push_columns.ensures)

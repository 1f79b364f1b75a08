use Rattle.std.proofs.Common.{◌≡◌, ◌≤◌, ◌^◌, ℕ, List, length, sym, subst, arith}
use Rattle.base_core.specs.declared.name.Name.{Name}
use Rattle.base_core.specs.declared.value.Column.{Column}
use Rattle.tables_core.specs.Contents.{Table}
use Rattle.monitor_core.specs.Verdict.{columns_of}
use Rattle.system_core.proofs.machine.ledger.Ledger.grants_of.Goals as goal

pub atoms_of-requires : goal.atoms_of-requires
atoms_of-requires c =
    let Narrow : List (Name × Table) → Type 0 = λ ts. (name : Name) → length (columns_of ts name) ≤ 32 in
    let narrow : Narrow c.self.inside.tables.tables = subst Narrow (sym c.self.invariant.tables_of) c.self.invariant.sound.narrow in
    let Few : List Column → Type 0 = λ columns. length columns ≤ 32 in
    subst Few (sym c.columns_of-columns.ensures) (narrow c.in-Grant.table)

use Rattle.std.proofs.Common.{List, subst, sym, IsSome}
use Rattle.base_core.specs.declared.name.Name.{Name}
use Rattle.tables_core.specs.Contents.{Table, table_of}
use Rattle.system_core.proofs.machine.ledger.Ledger.select.Goals as goal

pub rows_of-requires : goal.rows_of-requires
rows_of-requires c =
    let Stands : List (Name × Table) → Type 0 = λ ts. IsSome (table_of ts c.args.table) in
    subst Stands (sym c.self.invariant.tables_of) (rw (← c.self.view_is) at c.requires)

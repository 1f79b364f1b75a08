-- Kinds that are of one column.
use Rattle.std.specs.Prelude.{List, [], ◌∷◌, Option, Some, None}
use Rattle.std.specs.Option.{option_map_or}
use Rattle.base_core.specs.declared.name.Name.{Name}
use Rattle.base_core.specs.declared.privilege.Kind.{Kind}
use Rattle.base_core.specs.declared.privilege.Kind.TheVariants as kinds
use Rattle.monitor_core.specs.declared.atoms.ByColumn.{ByColumn}
use Rattle.monitor_core.specs.declared.atoms.ByColumn.TheVariants as by_column

-- the column of a SELECT, or that of an UPDATE
abbrev pub own_column : ByColumn → Kind → Option Name
own_column by_column.Select (kinds.Select column) = Some column
own_column by_column.Update (kinds.Update column) = Some column
own_column by kind = None

-- the columns of the SELECTs at the head, or those of the UPDATEs
abbrev pub columns_ahead : ByColumn → List Kind → List Name
columns_ahead by [] = []
columns_ahead by (kind ∷ more) =
    option_map_or (λ column. column ∷ columns_ahead by more) (own_column by kind) []

-- the column of the next kind, where both are SELECTs or both are UPDATEs
abbrev pub meeting : Kind → Kind → Option (ByColumn × Name)
meeting (kinds.Select last) (kinds.Select next) = Some (by_column.Select, next)
meeting (kinds.Update last) (kinds.Update next) = Some (by_column.Update, next)
meeting last next = None

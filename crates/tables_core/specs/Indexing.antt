-- What the indexes of a table list.
use Rattle.std.specs.Prelude.{◌≡◌, ◌<◌, ℕ, Bool, true, List, Option, Some, None, nat_eq, slice_get}
use Rattle.std.specs.List.{All, Contains, list_any}
use Rattle.std.specs.Option.{option_eq}
use Rattle.base_core.specs.Filter.{column_index}
use Rattle.base_core.specs.declared.value.Column.{Column}
use Rattle.base_core.specs.declared.condition.Assignment.{Assignment}
use Rattle.base_core.specs.declared.value.Value.{Value}
use Rattle.base_core.specs.declared.value.Row.{Row}
use Rattle.index_core.specs.declared.index.Index.{Index}
use Rattle.index_core.specs.declared.interval.Interval.{Interval}
use Rattle.index_core.specs.declared.key.Key.{Key}
use Rattle.index_core.specs.Listed.{ListsFor}
use Rattle.index_core.specs.Within.{IsWithin}
use Rattle.tables_core.specs.declared.column_index.ColumnIndex.{ColumnIndex}
use Rattle.tables_core.specs.declared.reach.Reach.{Reach}
use Rattle.tables_core.specs.declared.reach.Reach.TheVariants as reaches

-- a row and its number
abbrev pub Numbered : Type 0
Numbered = ℕ × Row

-- an index lists the row for the value that it has at the place, if it has one there
abbrev pub Lists : Index → ℕ → Numbered → Type 0
Lists index place row =
    (value : Value) → slice_get row.1.values place ≡ Some value → ListsFor index value row.0

-- the row of the number is one of those that an index has to list, as far as it was made
abbrev pub IsReached : Reach → ℕ → Type 0
IsReached (reaches.Below end) n = n < end
IsReached reaches.Whole n = Unit {0}

-- the index of a column, if there is one, lists the row, where it has to
abbrev pub ColumnLists : ColumnIndex → Numbered → Type 0
ColumnLists column row =
    (index : Index)
    → column.index ≡ Some index → IsReached column.reach row.0
    → Lists index column.place row

-- each of the indexes lists the row
abbrev pub EachLists : List ColumnIndex → Numbered → Type 0
EachLists kept row = All (λ column. ColumnLists column row) kept

-- and so each of the rows
abbrev pub ListAll : List ColumnIndex → List Numbered → Type 0
ListAll kept rows = All (EachLists kept) rows

-- whether one of the assignments is to the column at the place
abbrev pub assigns : List Column → List Assignment → ℕ → Bool
assigns columns sets place =
    list_any (λ set. option_eq nat_eq (column_index columns set.column) (Some place)) sets

-- the number of each row that the indexes list and that passes the test is among these
abbrev pub ListsEachPassing : List ColumnIndex → (Numbered → Bool) → List ℕ → Type 0
ListsEachPassing kept test numbers =
    (r : Numbered) → EachLists kept r → test r ≡ true → Contains numbers r.0

-- there is a value, and it is within the interval
abbrev pub IsCellWithin : Key → Interval → Option Value → Type 0
IsCellWithin key interval None = ⊥
IsCellWithin key interval (Some value) = IsWithin key interval value

-- the same where there may be no interval
abbrev pub IsCellKept : Key → Option Interval → Option Value → Type 0
IsCellKept key None cell = Unit {0}
IsCellKept key (Some interval) cell = IsCellWithin key interval cell

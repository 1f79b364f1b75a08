-- Rows that an UPDATE makes anew.
use Rattle.std.specs.Prelude.{ℕ, List}
use Rattle.std.specs.List.{fold}
use Rattle.base_core.specs.declared.value.Row.{Row}
use Rattle.copyup_core.specs.Holding.{with_item}

-- the rows with these ones under their numbers, one after another
abbrev pub with_new_rows : List (ℕ × Row) → List (ℕ × Row) → List (ℕ × Row)
with_new_rows rows new_rows = fold (λ made new. with_item new.0 new.1 made) rows new_rows

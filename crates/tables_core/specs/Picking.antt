-- Rows picked by their numbers.
use Rattle.std.specs.Prelude.{◌≡◌, ℕ, Bool, true, false, List, map, filter}
use Rattle.std.specs.List.{All, Contains, filter_map, fold}
use Rattle.std.specs.Option.{option_map, option_map_or}
use Rattle.base_core.specs.declared.value.Row.{Row}
use Rattle.copyup_core.specs.Holding.{value_at, without_item}

-- the rows of these numbers that are there, in the order of the numbers
abbrev pub rows_at : List ℕ → List (ℕ × Row) → List (ℕ × Row)
rows_at numbers rows = filter_map (λ n. option_map (λ row. (n, row)) (value_at n rows)) numbers

-- the rows but those of these numbers
abbrev pub without_rows : List ℕ → List (ℕ × Row) → List (ℕ × Row)
without_rows numbers rows = fold (λ left n. without_item n left) rows numbers

-- whether the row of this number is there and passes the test
abbrev pub row_passes_at : (ℕ × Row → Bool) → List (ℕ × Row) → ℕ → Bool
row_passes_at test rows n = option_map_or (λ row. test (n, row)) (value_at n rows) false

-- the numbers of the rows that pass the test
abbrev pub numbers_of : (ℕ × Row → Bool) → List (ℕ × Row) → List ℕ
numbers_of test rows = map (λ r. r.0) (filter test rows)

-- the number of each row that passes the test is among these
abbrev pub Covers : (ℕ × Row → Bool) → List ℕ → List (ℕ × Row) → Type 0
Covers test numbers rows = All (λ r. test r ≡ true → Contains numbers r.0) rows

-- Bounds of the numbers in one column.
use Rattle.std.specs.Prelude.{◌≡◌, ℤ, ◌≤ℤ◌, FitsSigned, List, Some, slice_get}
use Rattle.std.specs.Int.{w64}
use Rattle.base_core.specs.declared.value.Value.{Value}
use Rattle.base_core.specs.declared.value.Value.TheVariants as values
use Rattle.tables_core.specs.declared.bounds.Bounds.{Bounds}

-- a number is neither below nor above
abbrev pub Admits : Bounds → ℤ → Type 0
Admits bounds n = FitsSigned w64 n → (bounds.low ≤ℤ n) × (n ≤ℤ bounds.high)

-- a number at the place, if there is one, keeps the bounds
abbrev pub AdmitsRow : Bounds → List Value → Type 0
AdmitsRow bounds row =
    (n : ℤ) → slice_get row bounds.place ≡ Some (values.Int n) → Admits bounds n

-- Where the places of a statement stand, and the types that they have from there.
use Rattle.std.specs.Prelude.{◌≡◌, ◌≢◌, ◌+◌, ◌-◌, ◌<◌, ◌⊎◌, ℕ, pos, List, Some, length, slice_index_or, unwrap_or}
use Rattle.base_core.specs.declared.value.Value.{Value}
use Rattle.base_core.specs.declared.value.Value.TheVariants.{Int}
use Rattle.base_core.specs.declared.value.Column.{Column}
use Rattle.base_core.specs.declared.value.ColType.{ColType}
use Rattle.base_core.specs.declared.value.ColType.TheVariants.{Text}
use Rattle.reader_core.specs.declared.statement.Statement.{Statement}
use Rattle.binding_core.specs.Literals.{literal_number, literal_type}

-- the values are this number and those behind it
abbrev pub AreNumbersFrom : ℕ → List Value → Type 0
AreNumbersFrom first values =
    (k : ℕ) → k < length values → slice_index_or values k (Int (pos 0)) ≡ Int (pos (first + k))

-- the value of the place of this number
abbrev pub place_value : List Value → ℕ → Value
place_value values number = slice_index_or values (number - 1) (Int (pos 0))

-- the place of this number stands at this index: a statement with the places' own numbers in them
-- has it there, and the same with other ones has not
pub record StandsAt (ones others : Statement) (number index : ℕ) : Type 0 where
  pub has : literal_number ones index ≡ Some (pos number)
  pub differs : literal_number others index ≢ Some (pos number)

-- it stands there, and nowhere before
pub record StandsFirstAt (ones others : Statement) (number index : ℕ) : Type 0 where
  pub here : StandsAt ones others number index
  pub first : (k : ℕ) → k < index → StandsAt ones others number k → ⊥

-- the type of a place: that of the column for which it stands first, or Text where there is no
-- such column
abbrev pub IsPlaceType : List Column → Statement → Statement → ℕ → ColType → Type 0
IsPlaceType columns ones others number ty =
    ((index : ℕ) × StandsFirstAt ones others number index
    × (ty ≡ unwrap_or (literal_type columns ones index) Text))
    ⊎ (((index : ℕ) → StandsAt ones others number index → ⊥) × (ty ≡ Text))

-- the types of the places from 1 on
abbrev pub ArePlaceTypes : List Column → Statement → Statement → List ColType → Type 0
ArePlaceTypes columns ones others types =
    (k : ℕ) → k < length types
    → IsPlaceType columns ones others (k + 1) (slice_index_or types k Text)

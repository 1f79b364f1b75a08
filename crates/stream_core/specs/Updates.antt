-- The effects of changes of rows, by the rows that they find.
use Rattle.std.specs.Prelude.{ℕ, ◌≡◌, ◌≢◌, ◌⊎◌, List, [], ◌∷◌}
use Rattle.base_core.specs.declared.name.Name.{Name}
use Rattle.base_core.specs.declared.value.Row.{Row}
use Rattle.base_core.specs.declared.value.Value.{Value}
use Rattle.stream_core.specs.declared.effect.Effect.{Effect}
use Rattle.stream_core.specs.declared.effect.Effect.TheVariants as effects

-- a row of the table is gone
abbrev pub row_deleted : Name → ℕ × Row → Effect
row_deleted table r = effects.RowDeleted table r.0

-- a row of the table has the values that this makes of its own
abbrev pub row_updated : Name → (List Value → List Value) → ℕ × Row → Effect
row_updated table assign r =
    effects.RowUpdated table r.0 (record { values = assign r.1.values })

-- the effects of an assignment on these rows of the table: those of which it makes something else
abbrev pub AreUpdates : Name → (List Value → List Value) → List (ℕ × Row) → List Effect → Type 0
AreUpdates table assign [] all = all ≡ []
AreUpdates table assign (r ∷ rows) all =
    ((assign r.1.values ≡ r.1.values) × AreUpdates table assign rows all)
    ⊎ ((assign r.1.values ≢ r.1.values)
    × ((later : List Effect)
    × AreUpdates table assign rows later
    × (all ≡ row_updated table assign r ∷ later)))

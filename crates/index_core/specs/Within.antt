-- Intervals of keys, and what is within.
use Rattle.std.specs.Prelude.{◌≡◌, ℕ, Bool, true, ◌&&◌, nat_le, List, filter}
use Rattle.base_core.specs.declared.value.Value.{Value}
use Rattle.index_core.specs.Keys.{key_of}
use Rattle.index_core.specs.declared.entry.Entry.{Entry}
use Rattle.index_core.specs.declared.interval.Interval.{Interval}
use Rattle.index_core.specs.declared.key.Key.{Key}

-- whether a key is neither below an interval nor above it
abbrev pub admits : Interval → ℕ → Bool
admits interval n = nat_le interval.lowest n && nat_le n interval.highest

-- a value is within an interval of such keys
abbrev pub IsWithin : Key → Interval → Value → Type 0
IsWithin key interval value = admits interval (key_of key value) ≡ true

-- the entries whose keys are within an interval
abbrev pub entries_within : Interval → List Entry → List Entry
entries_within interval entries = filter (λ e. admits interval e.key) entries

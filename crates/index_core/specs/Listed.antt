-- What an index lists.
use Rattle.std.specs.Prelude.{ℕ, List, ◌++◌, map}
use Rattle.std.specs.List.{Contains, flat_map}
use Rattle.base_core.specs.declared.value.Value.{Value}
use Rattle.index_core.specs.Within.{IsWithin, entries_within}
use Rattle.index_core.specs.declared.entry.Entry.{Entry}
use Rattle.index_core.specs.declared.run.Run.{Run}
use Rattle.index_core.specs.declared.interval.Interval.{Interval}
use Rattle.index_core.specs.declared.index.Index.{Index}

-- the entries of all runs
abbrev pub entries_of : List Run → List Entry
entries_of runs = flat_map (λ run. run.entries.items) runs

-- the numbers of the entries within an interval
abbrev pub numbers_within : Interval → List Entry → List ℕ
numbers_within interval entries = map (λ e. e.number) (entries_within interval entries)

-- the numbers that an index lists within an interval
unfoldable pub listed : Index → Interval → List ℕ
listed index interval = numbers_within interval (entries_of index.runs.items ++ index.tail.items)

-- an index lists a number for a value: it does so in each interval that the value is within
abbrev pub ListsFor : Index → Value → ℕ → Type 0
ListsFor index value n =
    (interval : Interval) → IsWithin index.key interval value → Contains (listed index interval) n

-- What a capture of all tables has still to give.
use Rattle.std.specs.Prelude.{◌≡◌, ℕ, ◌≤◌, ◌<◌, ◌%◌, ◌^◌, if◌then◌else◌, ◌==◌, List, [], length, map, take, sum_by}
use Rattle.std.specs.List.{AllByRecursion}
use Rattle.std.specs.Map.{values_of}
use Rattle.base_core.specs.declared.name.Name.{Name}
use Rattle.base_core.specs.declared.value.Row.{Row}
use Rattle.tables_core.specs.Contents.{Table, all_rows}
use Rattle.copyup_core.specs.Holding.{due}
use Rattle.tables_core.specs.declared.captured.Captured.{Captured}
use Rattle.tables_core.specs.declared.walk.Walk.{Walk}

-- a table; the number of the last capture that its own was begun for; and what its own has still to
-- give
pub record StoredTable : Type 0 where
  pub contents : Table
  pub capture : ℕ
  pub due : List (ℕ × Row)

-- what a table has to give for the capture of this number: where its own was begun for that one,
-- what is due of it; else nothing was changed since, and all its rows
abbrev pub due_for : ℕ → StoredTable → List (ℕ × Row)
due_for number t = if t.capture == number then t.due else t.contents.rows

-- the same of a table's rows by themselves
abbrev pub rows_due_for : ℕ → Captured → List (ℕ × Row)
rows_due_for number m = if m.capture == number then due m.store else m.store.contents

-- what a table has still to give, without the numbers: nothing once no row of any is left
abbrev pub still_due : Walk → StoredTable → List Row
still_due w t = if w.left == 0 then [] else values_of (due_for w.number t)

-- what each of the tables that the capture covers has still to give
abbrev pub rest_in : Walk → List (Name × StoredTable) → List (List Row)
rest_in w ts = map (λ t. still_due w t.1) (take w.end ts)

-- no table's own capture was begun for a later one than this
abbrev pub CapturesUpTo : ℕ → List (Name × StoredTable) → Type 0
CapturesUpTo number ts = AllByRecursion (λ t. t.1.capture ≤ number) ts

-- the tables as callers see them
abbrev pub shown_tables : List (Name × StoredTable) → List (Name × Table)
shown_tables ts = map (λ t. (t.0, t.1.contents)) ts

-- a change to a table leaves what it has to give for a capture that still walks
pub record KeepsDue (w : Walk) (old new : StoredTable) : Type 0 where
  pub capture : old.capture ≤ w.number → new.capture ≤ w.number
  pub due : 0 < w.left → due_for w.number new ≡ due_for w.number old

-- the tables that the capture covers are there; what is left of them is counted, and so are all
-- rows, modulo 2^64
pub record IsWalk (ts : List (Name × StoredTable)) (w : Walk) (total : ℕ) : Type 0 where
  pub captures : CapturesUpTo w.number ts
  pub within : w.end ≤ length ts
  pub left_is : w.left ≡ sum_by length (rest_in w ts)
  pub total_is : total ≡ length (all_rows (shown_tables ts)) % 2 ^ 64

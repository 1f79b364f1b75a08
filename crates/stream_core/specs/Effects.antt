-- What a reader of a stream has, what each effect makes of it, and which effects a change has.
use Rattle.std.specs.Prelude.{ℕ, ◌≡◌, ◌≢◌, ◌+◌, ◌<◌, ◌==◌, Bool, not, List, [], ◌∷◌, ◌++◌, AllPairs, map, filter, fold}
use Rattle.base_core.specs.declared.name.Name.{Name}
use Rattle.base_core.specs.declared.value.Row.{Row}
use Rattle.copyup_core.specs.Holding.{with_item, without_item}
use Rattle.tables_core.specs.Contents.{Table, empty_table, with_change}
use Rattle.grants_core.specs.declared.grant.Grant.{Grant}
use Rattle.grants_core.specs.Content.{option_off}
use Rattle.stream_core.specs.declared.effect.Effect.{Effect}
use Rattle.stream_core.specs.declared.effect.Effect.TheVariants as effects

-- the tables in the order of their creation, each with its rows, and the grants in force, in the order
-- in which they were made
pub record Contents : Type 0 where
  pub tables : List (Name × Table)
  pub grants : List Grant

-- ---- what a reader does
-- the table with one row more, of this number, behind the others
abbrev pub with_inserted : ℕ → Row → Table → Table
with_inserted number row t =
    record t { inserted = number + 1; rows = t.rows ++ (number, row) ∷ [] }

-- the table with this row in place of the one of this number
abbrev pub with_updated : ℕ → Row → Table → Table
with_updated number row t = record t { rows = with_item number row t.rows }

-- the table without the row of this number
abbrev pub with_deleted : ℕ → Table → Table
with_deleted number t = record t { rows = without_item number t.rows }

-- a change made to the table of this name
abbrev pub in_table : Name → (Table → Table) → Contents → Contents
in_table table change c = record c { tables = with_change table change c.tables }

-- whether a grant has this number
abbrev pub has_number : ℕ → Grant → Bool
has_number number g = g.number == number

-- the contents after an effect
abbrev pub applied : Contents → Effect → Contents
applied c (effects.TableMade table owner columns) =
    record c { tables = c.tables ++ (table, empty_table owner columns) ∷ [] }
applied c (effects.RowInserted table number row) = in_table table (with_inserted number row) c
applied c (effects.RowUpdated table number row) = in_table table (with_updated number row) c
applied c (effects.RowDeleted table number) = in_table table (with_deleted number) c
applied c (effects.GrantMade g) = record c { grants = c.grants ++ g ∷ [] }
applied c (effects.OptionLost number) =
    record c { grants = map (option_off (has_number number)) c.grants }
applied c (effects.GrantFell number) =
    record c { grants = filter (λ g. not (has_number number g)) c.grants }

-- the contents after effects, one after another
abbrev pub after_effects : Contents → List Effect → Contents
after_effects c all = fold applied c all

-- ---- which effects a change has
-- what an effect is of: a table as a whole, a row of a table, or a grant
pub data Subject : Type 0 where
  a_table : Name → Subject
  a_row : Name → ℕ → Subject
  a_grant : ℕ → Subject

abbrev pub subject_of : Effect → Subject
subject_of (effects.TableMade table owner columns) = a_table table
subject_of (effects.RowInserted table number row) = a_row table number
subject_of (effects.RowUpdated table number row) = a_row table number
subject_of (effects.RowDeleted table number) = a_row table number
subject_of (effects.GrantMade g) = a_grant g.number
subject_of (effects.OptionLost number) = a_grant number
subject_of (effects.GrantFell number) = a_grant number

-- both are rows of one table, or both grants, and the first has the lesser number
abbrev pub IsBefore : Subject → Subject → Type 0
IsBefore (a_row table number) (a_row other more) = (table ≡ other) × (number < more)
IsBefore (a_row table number) (a_table other) = ⊥
IsBefore (a_row table number) (a_grant more) = ⊥
IsBefore (a_grant number) (a_grant more) = number < more
IsBefore (a_grant number) (a_table other) = ⊥
IsBefore (a_grant number) (a_row other more) = ⊥
IsBefore (a_table table) other = ⊥

-- each effect changes what there is when its turn comes
abbrev pub EachChanges : Contents → List Effect → Type 0
EachChanges c [] = Unit {0}
EachChanges c (e ∷ es) = (applied c e ≢ c) × EachChanges (applied c e) es

-- The effects are the difference between two contents: they lead from one to the other; each row and
-- each grant has one at most, in the order of their numbers; and none of them does nothing.
pub record AreEffectsOf (before after : Contents) (all : List Effect) : Type 0 where
  pub leads : after_effects before all ≡ after
  pub rises : AllPairs (λ e f. IsBefore (subject_of e) (subject_of f)) all
  pub changes : EachChanges before all

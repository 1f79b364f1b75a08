-- The rows of each table that a journal makes have rising numbers.
use Rattle.std.proofs.Common.{◌≡◌, Bool, true, false, cond, List, [], ◌∷◌, ◌++◌, Option, Some, None, refl, sym, subst}
use Rattle.std.specs.List.{AllByRecursion, fold}
use Rattle.std.specs.Map.{lookup, set_value}
use Rattle.base_core.specs.Words.{same_name}
use Rattle.base_core.specs.declared.name.Name.{Name}
use Rattle.base_core.specs.declared.name.User.{User}
use Rattle.reader_core.specs.declared.statement.Statement.{Statement}
use Rattle.reader_core.specs.declared.statement.Statement.TheVariants as statements
use Rattle.tables_core.specs.Contents.{Table, empty_table, table_of, with_change, with_row, without_chosen_rows, with_updated_rows}
use Rattle.tables_core.specs.Laws.{HasRisingNumbers, KeepsNumbered}
use Rattle.tables_core.proofs.ContentsLemmas.{with_change-none, with_change-some}
use Rattle.tables_core.proofs.NumberLemmas.{IsNumbered-opened, IsNumbered-with_row, IsNumbered-deleted, IsNumbered-updated}
use Rattle.system_core.specs.declared.machine.event.Entry.{Entry}
use Rattle.system_core.specs.Journal.{tables_after, tables_at, tables_with}

abbrev AllNumbered : List (Name × Table) → Type 0
AllNumbered tables = AllByRecursion (λ t. HasRisingNumbers t.1) tables

module _ (test : Name → Bool) where
  put-numbered : (tables : List (Name × Table)) (t : Table) → HasRisingNumbers t → AllNumbered tables → AllNumbered (set_value test tables t)
  put-numbered [] t n h = tt
  put-numbered (e ∷ es) t n h = by (test e.0) (put-numbered es t n h.1)
    where
      by : (b : Bool) → AllNumbered (set_value test es t) → AllNumbered (cond b ((e.0, t) ∷ es) (e ∷ set_value test es t))
      by true later = (n, h.1)
      by false later = (h.0, later)

  found-numbered : (tables : List (Name × Table)) (t : Table) → lookup test tables ≡ Some t → AllNumbered tables → HasRisingNumbers t
  found-numbered [] t there h = cc
  found-numbered (e ∷ es) t there h = by (test e.0) there (λ later. found-numbered es t later h.1)
    where
      by : (b : Bool) → cond b (Some e.1) (lookup test es) ≡ Some t → (lookup test es ≡ Some t → HasRisingNumbers t) → HasRisingNumbers t
      by true there later = let same : e.1 ≡ t = cc in subst HasRisingNumbers same h.0
      by false there later = later there

change-numbered : (name : Name) (change : Table → Table) (tables : List (Name × Table)) → KeepsNumbered change → AllNumbered tables → AllNumbered (with_change name change tables)
change-numbered name change tables keeps h = by (table_of tables name) refl
  where
    by : (found : Option Table) → table_of tables name ≡ found → AllNumbered (with_change name change tables)
    by (Some t) there =
        subst AllNumbered (sym (with_change-some name change tables t there)) (put-numbered (same_name name) tables (change t) (keeps t (found-numbered (same_name name) tables t there h)) h)
    by None none = subst AllNumbered (sym (with_change-none name change tables none)) h

new-numbered : (tables : List (Name × Table)) (new : Name × Table) → AllNumbered tables → HasRisingNumbers new.1 → AllNumbered (tables ++ new ∷ [])
new-numbered [] new h n = (n, tt)
new-numbered (e ∷ es) new h n = (h.0, new-numbered es new h.1 n)

after-numbered : (tables : List (Name × Table)) (user : User) (s : Statement) → AllNumbered tables → AllNumbered (tables_after tables user s)
after-numbered tables user (statements.CreateTable table columns) h = new-numbered tables (table, empty_table user columns) h (IsNumbered-opened user columns)
after-numbered tables user (statements.Insert table values) h = change-numbered table (with_row (record { values = values })) tables (IsNumbered-with_row (record { values = values })) h
after-numbered tables user (statements.Delete table filter) h = change-numbered table (without_chosen_rows filter) tables (IsNumbered-deleted filter) h
after-numbered tables user (statements.Update table sets filter) h = change-numbered table (with_updated_rows sets filter) tables (IsNumbered-updated sets filter) h
after-numbered tables user (statements.Select list table filter) h = h
after-numbered tables user (statements.Grant privileges table users option) h = h
after-numbered tables user (statements.Revoke privileges table users) h = h
after-numbered tables user (statements.RevokeOption privileges table users) h = h
after-numbered tables user statements.Checkpoint h = h
after-numbered tables user statements.Checkpoints h = h
after-numbered tables user (statements.Export number only) h = h

all-numbered : (tables : List (Name × Table)) (journal : List Entry) → AllNumbered tables → AllNumbered (fold tables_with tables journal)
all-numbered tables [] h = h
all-numbered tables (e ∷ es) h = all-numbered (tables_with tables e) es (after-numbered tables e.user e.statement h)

pub numbered-at : (journal : List Entry) (name : Name) (t : Table) → table_of (tables_at journal) name ≡ Some t → HasRisingNumbers t
numbered-at journal name t there = found-numbered (same_name name) (tables_at journal) t there (all-numbered [] journal tt)

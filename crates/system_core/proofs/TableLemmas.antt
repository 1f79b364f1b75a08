-- What a change makes of the tables, by look-up.
use Rattle.std.proofs.Common.{◌≡◌, ℕ, ◌+◌, ◌≤◌, Bool, true, false, cond, subst, List, [], ◌∷◌, ◌++◌, Option, Some, None, length, option_map, refl, sym, ap, ◌∙◌, arith}
use Rattle.std.specs.Option.{option_map_or, is_some}
use Rattle.std.proofs.lemmas.Bool.{cond-false, false_from_ne_true, both_ways}
use Rattle.base_core.specs.Words.{same_name}
use Rattle.base_core.specs.declared.name.Name.{Name}
use Rattle.base_core.specs.declared.name.User.{User}
use Rattle.base_core.specs.declared.value.Column.{Column}
use Rattle.reader_core.specs.declared.statement.Statement.{Statement}
use Rattle.reader_core.specs.declared.statement.Statement.TheVariants as statements
use Rattle.tables_core.specs.Contents.{Table, empty_table, with_row, without_chosen_rows, with_updated_rows, with_change, table_of}
use Rattle.tables_core.proofs.ContentsLemmas.{table_of-with_change, table_of-append}
use Rattle.base_core.proofs.SameLemmas.{same_name-true}
use Rattle.monitor_core.specs.Verdict.{is_table, columns_of}
use Rattle.system_core.specs.Journal.{tables_after}
use Rattle.system_core.specs.Carrying.{HasFewColumns, most_columns}
use Rattle.system_core.specs.Standing.{inserted_of}

-- a creation is of a name that is no table
abbrev pub IsNew : List (Name × Table) → Statement → Type 0
IsNew tables (statements.CreateTable table columns) = table_of tables table ≡ None
IsNew tables _ = Unit {0}

-- what holds of a look-up, and of each look-up after a change to the one table
pub changed : (P : Option Table → Type 0) (tables : List (Name × Table)) (table : Name) (change : Table → Table) (name : Name)
    → (P (table_of tables name) → P (option_map change (table_of tables name))) → P (table_of tables name) → P (table_of (with_change table change tables) name)
changed P tables table change name keeps h =
    subst P (sym (table_of-with_change tables table name change)) (elim (same_name table name) as (λ b. P (cond b (option_map change (table_of tables name)) (table_of tables name))) [ true ↦ keeps h | false ↦ h ])

created : (P : Option Table → Type 0) (tables : List (Name × Table)) (table : Name) (t : Table) (name : Name)
    → table_of tables table ≡ None → P (Some t) → P (table_of tables name) → P (table_of (tables ++ (table, t) ∷ []) name)
created P tables table t name new here h =
    subst P (sym (table_of-append tables table name t new)) (elim (same_name table name) as (λ b. P (cond b (Some t) (table_of tables name))) [ true ↦ here | false ↦ h ])

-- tables stay
stays : (change : Table → Table) (o : Option Table) → is_some o ≡ true → is_some (option_map change o) ≡ true
stays change None h = h
stays change (Some t) h = refl

pub is_table-after : (tables : List (Name × Table)) (user : User) (s : Statement) (name : Name) → IsNew tables s → is_table tables name ≡ true → is_table (tables_after tables user s) name ≡ true
is_table-after tables user (statements.CreateTable table columns) name new h = created (λ o. is_some o ≡ true) tables table (empty_table user columns) name new refl h
is_table-after tables user (statements.Insert table values) name new h = changed (λ o. is_some o ≡ true) tables table (with_row (record { values = values })) name (stays _ (table_of tables name)) h
is_table-after tables user (statements.Delete table filter) name new h = changed (λ o. is_some o ≡ true) tables table (without_chosen_rows filter) name (stays _ (table_of tables name)) h
is_table-after tables user (statements.Update table sets filter) name new h = changed (λ o. is_some o ≡ true) tables table (with_updated_rows sets filter) name (stays _ (table_of tables name)) h
is_table-after tables user _ name new h = h

-- what is no table after was none before
pub is_table-before : (tables : List (Name × Table)) (user : User) (s : Statement) (name : Name) → IsNew tables s → is_table (tables_after tables user s) name ≡ false → is_table tables name ≡ false
is_table-before tables user s name new h = false_from_ne_true _ (λ stands. both_ways _ h (is_table-after tables user s name new stands))

-- a change to a table makes none
goes : (change : Table → Table) (tables : List (Name × Table)) (table name : Name) → is_table (with_change table change tables) name ≡ true → is_table tables name ≡ true
goes change tables table name h =
    both (same_name table name) (table_of tables name) (ap is_some (sym (table_of-with_change tables table name change)) ∙ h)
  where
    both : (b : Bool) (o : Option Table) → is_some (cond b (option_map change o) o) ≡ true → is_some o ≡ true
    both true None k = k
    both true (Some t) k = refl
    both false o k = k

-- a table after, but for a new one, was one before
pub is_table-old : (tables : List (Name × Table)) (user : User) (s : Statement) (name : Name) → ((table : Name) (columns : List Column) → s ≡ statements.CreateTable table columns → same_name table name ≡ false) → IsNew tables s → is_table (tables_after tables user s) name ≡ true → is_table tables name ≡ true
is_table-old tables user (statements.CreateTable table columns) name other new h =
    ap is_some (sym (table_of-append tables table name (empty_table user columns) new ∙ cond-false (same_name table name) _ _ (other table columns refl))) ∙ h
is_table-old tables user (statements.Insert table values) name other new h = goes (with_row (record { values = values })) tables table name h
is_table-old tables user (statements.Delete table filter) name other new h = goes (without_chosen_rows filter) tables table name h
is_table-old tables user (statements.Update table sets filter) name other new h = goes (with_updated_rows sets filter) tables table name h
is_table-old tables user _ name other new h = h

-- the columns of a table stay
abbrev cols : Option Table → List Column
cols o = option_map_or (λ t. t.columns) o []

same_cols : (change : Table → Table) → ((t : Table) → (change t).columns ≡ t.columns) → (o : Option Table) → cols (option_map change o) ≡ cols o
same_cols change same None = refl
same_cols change same (Some t) = same t

pub columns-after : (tables : List (Name × Table)) (user : User) (s : Statement) (name : Name) → IsNew tables s → is_table tables name ≡ true → columns_of (tables_after tables user s) name ≡ columns_of tables name
columns-after tables user (statements.CreateTable table columns) name new h =
    ap cols (table_of-append tables table name (empty_table user columns) new ∙ cond-false (same_name table name) _ _ (false_from_ne_true _ (λ same.
    let P : Name → Type 0 = λ n. is_table tables n ≡ true in
    let gone : is_table tables table ≡ false = ap is_some new in
    both_ways _ gone (subst P (sym (same_name-true table name same)) h))))
columns-after tables user (statements.Insert table values) name new h = changed (λ o. cols o ≡ columns_of tables name) tables table (with_row (record { values = values })) name (λ e. same_cols _ (λ t. refl) (table_of tables name) ∙ e) refl
columns-after tables user (statements.Delete table filter) name new h = changed (λ o. cols o ≡ columns_of tables name) tables table (without_chosen_rows filter) name (λ e. same_cols _ (λ t. refl) (table_of tables name) ∙ e) refl
columns-after tables user (statements.Update table sets filter) name new h = changed (λ o. cols o ≡ columns_of tables name) tables table (with_updated_rows sets filter) name (λ e. same_cols _ (λ t. refl) (table_of tables name) ∙ e) refl
columns-after tables user _ name new h = refl

-- and they are few
few_cols : (change : Table → Table) → ((t : Table) → (change t).columns ≡ t.columns) → (o : Option Table) → length (cols o) ≤ most_columns → length (cols (option_map change o)) ≤ most_columns
few_cols change same o h = let e = ap length (same_cols change same o) in omega (arith, e, h)

pub narrow-after : (tables : List (Name × Table)) (user : User) (s : Statement) (name : Name) → IsNew tables s → HasFewColumns s → length (columns_of tables name) ≤ most_columns → length (columns_of (tables_after tables user s) name) ≤ most_columns
narrow-after tables user (statements.CreateTable table columns) name new narrow h = created (λ o. length (cols o) ≤ most_columns) tables table (empty_table user columns) name new narrow h
narrow-after tables user (statements.Insert table values) name new narrow h = changed (λ o. length (cols o) ≤ most_columns) tables table (with_row (record { values = values })) name (few_cols _ (λ t. refl) (table_of tables name)) h
narrow-after tables user (statements.Delete table filter) name new narrow h = changed (λ o. length (cols o) ≤ most_columns) tables table (without_chosen_rows filter) name (few_cols _ (λ t. refl) (table_of tables name)) h
narrow-after tables user (statements.Update table sets filter) name new narrow h = changed (λ o. length (cols o) ≤ most_columns) tables table (with_updated_rows sets filter) name (few_cols _ (λ t. refl) (table_of tables name)) h
narrow-after tables user _ name new narrow h = h

-- a change inserts at most one row into each table
abbrev rows_in : Option Table → ℕ
rows_in o = option_map_or (λ t. t.inserted) o 0

one_more : (change : Table → Table) (o : Option Table) (m : ℕ) → ((t : Table) → (change t).inserted ≤ t.inserted + 1) → rows_in o ≤ m → rows_in (option_map change o) ≤ m + 1
one_more change None m step h = omega arith
one_more change (Some t) m step h = omega (arith, step t, h)

inserts : (tables : List (Name × Table)) (table : Name) (change : Table → Table) (name : Name) (m : ℕ) → ((t : Table) → (change t).inserted ≤ t.inserted + 1) → rows_in (table_of tables name) ≤ m → rows_in (table_of (with_change table change tables) name) ≤ m + 1
inserts tables table change name m step h =
    changed (λ o. rows_in o ≤ m + 1) tables table change name (λ k. one_more change (table_of tables name) m step h) (omega (arith, h))

pub inserted-after : (tables : List (Name × Table)) (user : User) (s : Statement) (m : ℕ) (name : Name) → IsNew tables s → inserted_of tables name ≤ m → inserted_of (tables_after tables user s) name ≤ m + 1
inserted-after tables user (statements.CreateTable table columns) m name new h = created (λ o. rows_in o ≤ m + 1) tables table (empty_table user columns) name new (omega arith) (omega (arith, h))
inserted-after tables user (statements.Insert table values) m name new h = inserts tables table (with_row (record { values = values })) name m (λ t. omega arith) h
inserted-after tables user (statements.Delete table filter) m name new h = inserts tables table (without_chosen_rows filter) name m (λ t. omega arith) h
inserted-after tables user (statements.Update table sets filter) m name new h = inserts tables table (with_updated_rows sets filter) name m (λ t. omega arith) h
inserted-after tables user _ m name new h = omega (arith, h)

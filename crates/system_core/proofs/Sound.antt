-- In a lawful journal the rows of each table fit its columns, and no two tables have one name.
use Rattle.std.proofs.Common.{◌≡◌, List, [], ◌∷◌, ◌++◌, Ok, Option, Some, None, refl, sym, ap, ◌∙◌, subst, append-nil, append_assoc}
use Rattle.std.specs.Prelude.{All, IfSome}
use Rattle.std.specs.List.{IsDistinct}
use Rattle.std.specs.Map.{keys_of, values_of}
use Rattle.std.specs.Option.{is_some}
use Rattle.std.proofs.lemmas.Cmp.{nat_list_eq_equiv}
use Rattle.std.proofs.lemmas.List.{map-append}
use Rattle.std.proofs.lemmas.List.Elements.{All-nil, All-append, All-from_recursion}
use Rattle.std.proofs.lemmas.Map.Keys.{IsDistinct-push}
use Rattle.std.proofs.lemmas.Map.Made.{is_some-lookup}
use Rattle.std.proofs.lemmas.Map.Views.{All-values-set_value, IfSome-lookup_from_All}
use Rattle.base_core.specs.Words.{same_name}
use Rattle.base_core.specs.declared.name.Name.{Name}
use Rattle.base_core.specs.declared.name.User.{User}
use Rattle.base_core.specs.declared.limits.Limits.{Limits}
use Rattle.reader_core.specs.declared.statement.Statement.{Statement}
use Rattle.reader_core.specs.declared.statement.Statement.TheVariants as statements
use Rattle.tables_core.specs.Contents.{Table, empty_table, with_row, without_chosen_rows, with_updated_rows, with_change, table_of}
use Rattle.tables_core.specs.Fitting.{RowsFit}
use Rattle.tables_core.proofs.ContentsLemmas.{with_change-some, with_change-none, names-with_change}
use Rattle.tables_core.proofs.FittingLemmas.{RowsFit-with_row, RowsFit-deleted, RowsFit-updated}
use Rattle.monitor_core.specs.Verdict.{State, verdict}
use Rattle.system_core.proofs.Fitting.{ValuesFit-allowed, AssignmentsFit-allowed}
use Rattle.system_core.specs.declared.machine.event.Entry.{Entry}
use Rattle.system_core.specs.Journal.{tables_at, tables_after, state_of, IsLawfulFrom, IsLawful}
use Rattle.system_core.proofs.Keeping.{new, contents-more}

abbrev pub RowsFitIn : List (Name × Table) → Type 0
RowsFitIn tables = All RowsFit (values_of tables)

abbrev pub NamesDiffer : List (Name × Table) → Type 0
NamesDiffer tables = IsDistinct same_name (keys_of tables)

-- ---- rows
module _ (tables : List (Name × Table)) (h : RowsFitIn tables) where
  rows-change : (table : Name) (change : Table → Table) → ((t : Table) → table_of tables table ≡ Some t → RowsFit t → RowsFit (change t)) → RowsFitIn (with_change table change tables)
  rows-change table change keeps = by (table_of tables table) refl
    where
      by : (found : Option Table) → table_of tables table ≡ found → RowsFitIn (with_change table change tables)
      by None none = subst RowsFitIn (sym (with_change-none table change tables none)) h
      by (Some t) there =
          let Here : Option Table → Type 0 = λ o. IfSome o RowsFit in
          let fit : RowsFit t = subst Here there (IfSome-lookup_from_All RowsFit (same_name table) tables h) in
          subst RowsFitIn (sym (with_change-some table change tables t there)) (All-values-set_value (same_name table) RowsFit tables (change t) h (keeps t there fit))

  rows-new : (table : Name) (t : Table) → RowsFit t → RowsFitIn (tables ++ (table, t) ∷ [])
  rows-new table t fit =
      let P : List Table → Type 0 = λ ts. All RowsFit ts in
      subst P (sym (map-append (λ e. e.1) tables ((table, t) ∷ []))) (All-append RowsFit (values_of tables) (t ∷ []) h (All-from_recursion RowsFit (t ∷ []) (fit, tt)))

rows-after : (at : State) (user : User) (s : Statement) → verdict at user s ≡ Ok tt → RowsFitIn at.tables → RowsFitIn (tables_after at.tables user s)
rows-after at user (statements.CreateTable table columns) ok h = rows-new at.tables h table (empty_table user columns) tt
rows-after at user (statements.Insert table values) ok h = rows-change at.tables h table (with_row (record { values = values })) (λ t there fit. RowsFit-with_row t (record { values = values }) (ValuesFit-allowed at user table t there values ok) fit)
rows-after at user (statements.Delete table filter) ok h = rows-change at.tables h table (without_chosen_rows filter) (λ t there fit. RowsFit-deleted t filter fit)
rows-after at user (statements.Update table sets filter) ok h = rows-change at.tables h table (with_updated_rows sets filter) (λ t there fit. RowsFit-updated t sets filter (AssignmentsFit-allowed at user table t there sets filter ok) fit)
rows-after at user _ ok h = h

-- ---- names
names-change : (tables : List (Name × Table)) (table : Name) (change : Table → Table) → NamesDiffer tables → NamesDiffer (with_change table change tables)
names-change tables table change h =
    let P : List Name → Type 0 = λ names. IsDistinct same_name names in
    subst P (sym (names-with_change tables table change)) h

names-new : (tables : List (Name × Table)) (table : Name) (t : Table) → table_of tables table ≡ None → NamesDiffer tables → NamesDiffer (tables ++ (table, t) ∷ [])
names-new tables table t none h =
    let P : List Name → Type 0 = λ names. IsDistinct same_name names in
    subst P (sym (map-append (λ e. e.0) tables ((table, t) ∷ [])))
    (IsDistinct-push nat_list_eq_equiv (keys_of tables) table h (sym (is_some-lookup (same_name table) tables) ∙ ap is_some none))

names-after : (at : State) (user : User) (s : Statement) → verdict at user s ≡ Ok tt → NamesDiffer at.tables → NamesDiffer (tables_after at.tables user s)
names-after at user (statements.CreateTable table columns) ok h = names-new at.tables table (empty_table user columns) (new at user (statements.CreateTable table columns) ok) h
names-after at user (statements.Insert table values) ok h = names-change at.tables table (with_row (record { values = values })) h
names-after at user (statements.Delete table filter) ok h = names-change at.tables table (without_chosen_rows filter) h
names-after at user (statements.Update table sets filter) ok h = names-change at.tables table (with_updated_rows sets filter) h
names-after at user _ ok h = h

-- ---- journals
-- what each allowed statement keeps holds of the tables of each lawful journal
module _ (P : List (Name × Table) → Type 0) (keeps : (at : State) (user : User) (s : Statement) → verdict at user s ≡ Ok tt → P at.tables → P (tables_after at.tables user s)) where
  kept : (limits : Limits) (before es : List Entry) → P (tables_at before) → IsLawfulFrom limits before es → P (tables_at (before ++ es))
  kept limits before [] h lawful = subst (λ (k : List Entry). P (tables_at k)) (sym (append-nil before)) h
  kept limits before (e ∷ es) h lawful =
      subst (λ (k : List Entry). P (tables_at k)) (append_assoc before (e ∷ []) es)
      (kept limits (before ++ e ∷ []) es (subst P (sym (contents-more before e)) (keeps (state_of limits before) e.user e.statement lawful.1 h)) lawful.2)

pub rows-at : (limits : Limits) (journal : List Entry) → IsLawful limits journal → RowsFitIn (tables_at journal)
rows-at limits journal lawful = kept RowsFitIn rows-after limits [] journal (All-nil RowsFit) lawful

pub names-at : (limits : Limits) (journal : List Entry) → IsLawful limits journal → NamesDiffer (tables_at journal)
unfolding IsDistinct
names-at limits journal lawful = kept NamesDiffer names-after limits [] journal tt lawful

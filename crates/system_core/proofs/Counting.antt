-- How many rows tables have, and how many grants are in force.
use Rattle.std.proofs.Common.{◌≡◌, ℕ, ◌+◌, ◌≤◌, Bool, true, false, not, cond, List, [], ◌∷◌, ◌++◌, Option, Some, None, length, filter, fold, sum_by, refl, sym, ap, ◌∙◌, arith}
use Rattle.std.specs.Map.{values_of, set_value}
use Rattle.std.proofs.lemmas.List.{length-append, length-map}
use Rattle.std.proofs.lemmas.List.Sums.{sum_by-cons, sum_by-append, length-filter, count_by-le-length}
use Rattle.std.proofs.lemmas.Map.Entries.{sum_by-set_value}
use Rattle.base_core.specs.Words.{same_name}
use Rattle.base_core.specs.declared.name.Name.{Name}
use Rattle.base_core.specs.declared.name.User.{User}
use Rattle.reader_core.specs.declared.statement.Statement.{Statement}
use Rattle.reader_core.specs.declared.statement.Statement.TheVariants as statements
use Rattle.tables_core.specs.Contents.{Table, satisfies, updated_row, empty_table, with_row, without_chosen_rows, with_updated_rows, with_change, table_of}
use Rattle.tables_core.proofs.ContentsLemmas.{with_change-some, with_change-none}
use Rattle.grants_core.specs.declared.grant.Grant.{Grant}
use Rattle.grants_core.specs.declared.grant.Ownership.{Ownership}
use Rattle.grants_core.specs.declared.grant.Change.{Change}
use Rattle.grants_core.specs.declared.grant.Change.TheVariants as change
use Rattle.grants_core.specs.Valid.{kept_with, is_supported}
use Rattle.grants_core.specs.Content.{option_off}
use Rattle.grants_core.specs.History.{made_by, made_by_all, grants_of, granted_from, granted, in_force_after, owners_after, unstruck_after, left_after, is_struck, is_unoptioned}
use Rattle.grants_core.proofs.SinglesLemmas.{length-singles}
use Rattle.capture_core.specs.Image.{row_total}
use Rattle.system_core.specs.Journal.{tables_after}

filter-few : {X : Type 0} (p : X → Bool) (xs : List X) → length (filter p xs) ≤ length xs
filter-few p xs = omega (arith, length-filter p xs, count_by-le-length p xs)

-- ---- rows
abbrev rows_in : Table → ℕ
rows_in t = length t.rows

total : (tables : List (Name × Table)) → row_total tables ≡ sum_by rows_in (values_of tables)
total [] = refl
total (t ∷ ts) = sum_by-cons (λ (t : Name × Table). length t.1.rows) t ts ∙ ap (λ k. length t.1.rows + k) (total ts) ∙ sym (sum_by-cons rows_in t.1 (values_of ts))

total-change : (tables : List (Name × Table)) (table : Name) (by : Table → Table) → ((t : Table) → length (by t).rows ≤ length t.rows + 1) → row_total (with_change table by tables) ≤ row_total tables + 1
total-change tables table by step = found (table_of tables table) refl
  where
    found : (o : Option Table) → table_of tables table ≡ o → row_total (with_change table by tables) ≤ row_total tables + 1
    found None none = let same = ap row_total (with_change-none table by tables none) in omega (arith, same)
    found (Some t) there =
        let same = ap row_total (with_change-some table by tables t there) in
        let set = sum_by-set_value rows_in (same_name table) tables t (by t) there in
        omega (arith, same, set, total tables, total (set_value (same_name table) tables (by t)), step t)

pub row_total-after : (tables : List (Name × Table)) (user : User) (s : Statement) → row_total (tables_after tables user s) ≤ row_total tables + 1
row_total-after tables user (statements.CreateTable table columns) = let more = sum_by-append (λ (t : Name × Table). length t.1.rows) tables ((table, empty_table user columns) ∷ []) in omega (arith, more)
row_total-after tables user (statements.Insert table values) = total-change tables table (with_row (record { values = values })) (λ t. omega (arith, length-append t.rows ((t.inserted, record { values = values }) ∷ [])))
row_total-after tables user (statements.Delete table filter) = total-change tables table (without_chosen_rows filter) (λ t. omega (arith, filter-few (λ numbered. not (satisfies t.columns filter numbered)) t.rows))
row_total-after tables user (statements.Update table sets filter) = total-change tables table (with_updated_rows sets filter) (λ t. omega (arith, length-map t.rows (updated_row t.columns sets filter)))
row_total-after tables user _ = omega arith

-- ---- grants
kept-few : (owners : List Ownership) (kept : List Grant) (g : Grant) → length (kept_with owners kept g) ≤ length kept + 1
kept-few owners kept g = elim (is_supported owners kept g) as (λ b. length (cond b (kept ++ g ∷ []) kept) ≤ length kept + 1) [ true ↦ omega (arith, length-append kept (g ∷ [])) | false ↦ omega arith ]

fold-few : (owners : List Ownership) (kept grants : List Grant) → length (fold (kept_with owners) kept grants) ≤ length kept + length grants
fold-few owners kept [] = omega arith
fold-few owners kept (g ∷ gs) = omega (arith, kept-few owners kept g, fold-few owners (kept_with owners kept g) gs)

length-grants_of : (n m : ℕ) (c : Change) → length (grants_of n m c) ≡ made_by c
length-grants_of n m (change.Create table owner) = refl
length-grants_of n m (change.Grant by atoms whom option) = length-singles n (record { 0 = m }) by atoms whom option
length-grants_of n m (change.Revoke by atoms whom) = refl
length-grants_of n m (change.RevokeOption by atoms whom) = refl
length-grants_of n m change.Other = refl

length-granted : (n m : ℕ) (cs : List Change) → length (granted_from n m cs) ≡ made_by_all cs
length-granted n m [] = refl
length-granted n m (c ∷ cs) =
    let long = length-append (grants_of n m c) (granted_from (n + made_by c) (m + 1) cs) in
    omega (arith, long, length-grants_of n m c, length-granted (n + made_by c) (m + 1) cs)

-- no more are in force than were made
pub in_force-few : (cs : List Change) → length (in_force_after cs) ≤ made_by_all cs
in_force-few cs =
    let kept = fold-few (owners_after cs) [] (left_after cs) in
    let left : length (left_after cs) ≡ length (unstruck_after cs) = length-map (unstruck_after cs) (option_off (is_unoptioned cs)) in
    let unstruck = filter-few (λ g. not (is_struck cs g)) (granted cs) in
    omega (arith, kept, left, unstruck, length-granted 0 1 cs)

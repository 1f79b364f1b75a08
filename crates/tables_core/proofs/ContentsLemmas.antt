-- What a change to one table makes of all of them, and what look-ups find after it.
use Rattle.std.proofs.Common.{◌≡◌, List, Bool, true, false, cond, Option, Some, None, IsSome, length, option_map, sym, ap, ◌∙◌, refl}
use Rattle.std.specs.Map.{set_value, keys_of}
use Rattle.std.specs.Option.{option_map_or}
use Rattle.std.proofs.lemmas.Cmp.{nat_list_eq_equiv}
use Rattle.std.proofs.lemmas.Map.{lookup-set_value, lookup-insert, keys-set_value, none_passes_from_lookup}
use Rattle.std.proofs.lemmas.List.Edits.{insert_end}
use Rattle.std.proofs.lemmas.Slice.Eq.{bytes_eq-Decides}
use Rattle.base_core.specs.Words.{same_name}
use Rattle.base_core.specs.declared.name.Name.{Name}
use Rattle.base_core.specs.declared.value.Row.{Row}
use Rattle.tables_core.specs.Contents.{Table, Database, table_of, with_change}
use Rattle.tables_core.specs.Laws.{LookUpAfterChange, LookUpAfterNew, NamesAfterChange}

-- equal tables, with as much left to give, are equal databases
pub same_database : {tables others : List (Name × Table)} {rest left : List (List Row)} → tables ≡ others → rest ≡ left → ◌≡◌ {A = Database} (record { tables = tables; rest = rest }) (record { tables = others; rest = left })
same_database e r = rw (e, r)

module _ (name : Name) (change : Table → Table) (tables : List (Name × Table)) where
  -- where the table is there
  pub with_change-some : (t : Table) → table_of tables name ≡ Some t → with_change name change tables ≡ set_value (same_name name) tables (change t)
  with_change-some t there = ap (λ found. option_map_or (λ t. set_value (same_name name) tables (change t)) found tables) there

  -- where there is no such table
  pub with_change-none : table_of tables name ≡ None → with_change name change tables ≡ tables
  with_change-none none = ap (λ found. option_map_or (λ t. set_value (same_name name) tables (change t)) found tables) none

-- a look-up by the same name finds the same
table_of-same : (tables : List (Name × Table)) (name other : Name) → same_name name other ≡ true → table_of tables other ≡ table_of tables name
table_of-same tables name other same = ap (table_of tables) (sym ((bytes_eq-Decides name other).0 same))

pub table_of-with_change : LookUpAfterChange
table_of-with_change tables name other change = by (table_of tables name) refl
  where
    written : (t : Table) (b : Bool) → same_name name other ≡ b → table_of tables name ≡ Some t
        → cond b (Some (change t)) (table_of tables other) ≡ cond b (option_map change (table_of tables other)) (table_of tables other)
    written t true same there = sym (ap (option_map change) (table_of-same tables name other same ∙ there))
    written t false same there = refl

    missing : (b : Bool) → same_name name other ≡ b → table_of tables name ≡ None
        → table_of tables other ≡ cond b (option_map change (table_of tables other)) (table_of tables other)
    missing true same none = let gone = table_of-same tables name other same ∙ none in gone ∙ sym (ap (option_map change) gone)
    missing false same none = refl

    by : (found : Option Table) → table_of tables name ≡ found
        → table_of (with_change name change tables) other ≡ cond (same_name name other) (option_map change (table_of tables other)) (table_of tables other)
    by (Some t) there =
        let some : IsSome (table_of tables name) = rw there refl in
        ap (λ ts. table_of ts other) (with_change-some name change tables t there)
        ∙ (lookup-set_value nat_list_eq_equiv (same_name name) (nat_list_eq_equiv.congr name) other (change t) tables some
        ∙ written t (same_name name other) refl there)
    by None none = ap (λ ts. table_of ts other) (with_change-none name change tables none) ∙ missing (same_name name other) refl none

pub table_of-append : LookUpAfterNew
table_of-append tables name other t none =
    ap (λ ts. table_of ts other) (sym (insert_end tables (name, t)))
    ∙ lookup-insert nat_list_eq_equiv name t other tables (length tables) (none_passes_from_lookup (same_name name) tables none)

pub names-with_change : NamesAfterChange
names-with_change tables name change = by (table_of tables name) refl
  where
    by : (found : Option Table) → table_of tables name ≡ found → keys_of (with_change name change tables) ≡ keys_of tables
    by (Some t) there = ap keys_of (with_change-some name change tables t there) ∙ keys-set_value (same_name name) tables (change t)
    by None none = ap keys_of (with_change-none name change tables none)

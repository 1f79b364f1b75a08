-- What a change to one table, and a new table, make of all of them.
use Rattle.std.proofs.Common.{◌≡◌, ◌≤◌, ◌+◌, ◌%◌, ◌^◌, ℕ, List, [], ◌∷◌, ◌++◌, Option, Some, None, length, map, sum_by, refl, sym, ap, subst, ◌∙◌, arith, append-nil, length-append}
use Rattle.std.specs.Map.{lookup, set_value}
use Rattle.std.proofs.lemmas.List.{map-append, take-append-le}
use Rattle.std.proofs.lemmas.Grind.{flat_map-append}
use Rattle.std.proofs.lemmas.Map.Made.{lookup-map_values}
use Rattle.std.proofs.lemmas.Map.Steps.{set_value_same}
use Rattle.std.specs.Option.{option_map}
use Rattle.base_core.specs.Words.{same_name}
use Rattle.base_core.specs.declared.name.Name.{Name}
use Rattle.base_core.specs.declared.name.User.{User}
use Rattle.base_core.specs.declared.value.Column.{Column}
use Rattle.base_core.specs.declared.value.Row.{Row}
use Rattle.tables_core.specs.declared.walk.Walk.{Walk}
use Rattle.tables_core.specs.Contents.{Table, all_rows, empty_table, table_of, with_change, with_row}
use Rattle.tables_core.specs.Capture.{StoredTable, KeepsDue, IsWalk, CapturesUpTo, still_due, rest_in, shown_tables}
use Rattle.tables_core.proofs.CaptureLemmas.{all_rows-changed, rest-kept, shown-named, walk-kept}
use Rattle.tables_core.proofs.ContentsLemmas.{with_change-some, with_change-none}

-- a look-up among the tables as callers see them
pub shown-found : (name : Name) (ts : List (Name × StoredTable)) → table_of (shown_tables ts) name ≡ option_map (λ (t : StoredTable). t.contents) (lookup (same_name name) ts)
shown-found name ts = lookup-map_values (λ (t : StoredTable). t.contents) (same_name name) ts

-- a table that was written as it was
pub same-written : (name : Name) (ts after : List (Name × StoredTable)) (x y : StoredTable) → lookup (same_name name) ts ≡ Some x → after ≡ set_value (same_name name) ts y → y ≡ x → after ≡ ts
same-written name ts after x y there written same = written ∙ set_value_same (same_name name) ts y (there ∙ ap Some (sym same))

module _ (name : Name) (ts after : List (Name × StoredTable)) (w : Walk) (x y : StoredTable) (there : lookup (same_name name) ts ≡ Some x) (written : after ≡ set_value (same_name name) ts y) where
  pub shown-there : table_of (shown_tables ts) name ≡ Some x.contents
  shown-there = shown-found name ts ∙ ap (option_map (λ (t : StoredTable). t.contents)) there

  shown-after : shown_tables after ≡ set_value (same_name name) (shown_tables ts) y.contents
  shown-after = ap shown_tables written ∙ shown-named (same_name name) ts y

  pub shown-changed : (change : Table → Table) → y.contents ≡ change x.contents → shown_tables after ≡ with_change name change (shown_tables ts)
  shown-changed change made = shown-after ∙ ap (set_value (same_name name) (shown_tables ts)) made ∙ sym (with_change-some name change (shown_tables ts) x.contents shown-there)

  pub shown-same : y.contents ≡ x.contents → shown_tables after ≡ shown_tables ts
  shown-same same = shown-after ∙ set_value_same (same_name name) (shown_tables ts) y.contents (shown-there ∙ ap Some (sym same))

  pub rest-after : KeepsDue w x y → rest_in w after ≡ rest_in w ts
  rest-after kept = ap (rest_in w) written ∙ rest-kept (same_name name) ts w x y there kept

  pub walk-after : KeepsDue w x y → (total more : ℕ) → IsWalk ts w total → ((before now : ℕ) → total ≡ before % 2 ^ 64 → now + length x.contents.rows ≡ before + length y.contents.rows → more ≡ now % 2 ^ 64) → IsWalk after w more
  walk-after kept total more s counted =
      let long = all_rows-changed (same_name name) (shown_tables ts) x.contents y.contents shown-there in
      let now = ap (λ l. length (all_rows l)) (shown-named (same_name name) ts y) in
      let count = counted (length (all_rows (shown_tables ts))) (length (all_rows (shown_tables (set_value (same_name name) ts y)))) s.total_is (omega arith) in
      subst (λ l. IsWalk l w more) (sym written) (walk-kept (same_name name) ts w x y there kept total more s count)

-- a new table, behind the others
module _ (ts : List (Name × StoredTable)) (name : Name) (t : StoredTable) (w : Walk) where
  pub shown-added : shown_tables (ts ++ (name, t) ∷ []) ≡ shown_tables ts ++ (name, t.contents) ∷ []
  shown-added = map-append (λ (e : Name × StoredTable). (e.0, e.1.contents)) ts ((name, t) ∷ [])

  pub rest-added : w.end ≤ length ts → rest_in w (ts ++ (name, t) ∷ []) ≡ rest_in w ts
  rest-added within = ap (map (λ (k : Name × StoredTable). still_due w k.1)) (take-append-le w.end ts ((name, t) ∷ []) within)

  captures-added : (n : ℕ) (us : List (Name × StoredTable)) → t.capture ≤ n → CapturesUpTo n us → CapturesUpTo n (us ++ (name, t) ∷ [])
  captures-added n [] le h = (le, tt)
  captures-added n (u ∷ us) le h = (h.0, captures-added n us le h.1)

  rows-added : t.contents.rows ≡ [] → all_rows (shown_tables (ts ++ (name, t) ∷ [])) ≡ all_rows (shown_tables ts)
  rows-added empty =
      let named : Name × Table → List (Name × (ℕ × Row)) = λ k. map (λ numbered. (k.0, numbered)) k.1.rows in
      ap all_rows shown-added
      ∙ flat_map-append named (shown_tables ts) ((name, t.contents) ∷ [])
      ∙ ap (λ rows. all_rows (shown_tables ts) ++ (map (λ numbered. (name, numbered)) rows ++ [])) empty
      ∙ append-nil (all_rows (shown_tables ts))

  pub walk-added : (total : ℕ) → t.capture ≡ w.number → t.contents.rows ≡ [] → IsWalk ts w total → IsWalk (ts ++ (name, t) ∷ []) w total
  walk-added total capture empty s = record {
    captures = captures-added w.number ts (omega arith) s.captures;
    within = let long = length-append ts ((name, t) ∷ []) in let k = s.within in omega arith;
    left_is = s.left_is ∙ ap (λ l. sum_by length l) (sym (rest-added s.within));
    total_is = s.total_is ∙ ap (λ rows. length rows % 2 ^ 64) (sym (rows-added empty));
  }

-- a new row is one row more at most
pub all_rows-with_row : (name : Name) (row : Row) (ts : List (Name × Table)) → length (all_rows (with_change name (with_row row) ts)) ≤ length (all_rows ts) + 1
all_rows-with_row name row ts = by (table_of ts name) refl
  where
    by : (o : Option Table) → table_of ts name ≡ o → length (all_rows (with_change name (with_row row) ts)) ≤ length (all_rows ts) + 1
    by (Some t) there =
        let made = ap (λ l. length (all_rows l)) (with_change-some name (with_row row) ts t there) in
        let counted = all_rows-changed (same_name name) ts t (with_row row t) there in
        let more = length-append t.rows ((t.inserted, row) ∷ []) in
        omega arith
    by None none =
        let made = ap (λ l. length (all_rows l)) (with_change-none name (with_row row) ts none) in
        omega arith

-- a new table has no rows
pub all_rows-created : (ts : List (Name × Table)) (name : Name) (owner : User) (columns : List Column) → length (all_rows (ts ++ (name, empty_table owner columns) ∷ [])) ≡ length (all_rows ts)
all_rows-created ts name owner columns =
    let named : Name × Table → List (Name × (ℕ × Row)) = λ k. map (λ numbered. (k.0, numbered)) k.1.rows in
    ap length (flat_map-append named ts ((name, empty_table owner columns) ∷ []) ∙ append-nil (all_rows ts))

-- What there is of one subject, and that effects of other subjects leave it.
use Rattle.std.proofs.Common.{◌≡◌, ◌≢◌, ℕ, Bool, true, false, cond, eqb, List, [], ◌∷◌, ◌++◌, map, Option, Some, None, option_map, refl, sym, ap, ◌∙◌, append-nil}
use Rattle.std.specs.List.{filter}
use Rattle.std.specs.Map.{lookup, set_value}
use Rattle.std.specs.Option.{option_map_or}
use Rattle.std.proofs.lemmas.Bool.{ne_eqb}
use Rattle.std.proofs.lemmas.List.{map-append}
use Rattle.std.proofs.lemmas.List.Elements.{filter-append}
use Rattle.base_core.specs.Words.{same_name}
use Rattle.base_core.specs.declared.name.Name.{Name}
use Rattle.base_core.specs.declared.value.Row.{Row}
use Rattle.base_core.proofs.SameLemmas.{same_name-true}
use Rattle.tables_core.specs.Contents.{Table, empty_table, table_of}
use Rattle.tables_core.proofs.ContentsLemmas.{table_of-with_change, with_change-none, with_change-some}
use Rattle.stream_core.specs.declared.effect.Effect.{Effect}
use Rattle.stream_core.specs.declared.effect.Effect.TheVariants as effects
use Rattle.stream_core.specs.Effects.{Contents, Subject, a_grant, a_row, a_table, applied, has_number, in_table, subject_of, with_deleted, with_inserted, with_updated}
use Rattle.stream_core.proofs.NumberedRows.{numbered, other-out, other-put}
use Rattle.stream_core.proofs.NumberedGrants.{of_number, other-fell, other-unoptioned}

-- ---- what there is of a subject, as the effects that make it
abbrev pub row_made : Name → ℕ × Row → Effect
row_made name r = effects.RowInserted name r.0 r.1

abbrev pub table_made : Name × Table → Effect
table_made t = effects.TableMade t.0 t.1.owner t.1.columns

-- the table without its rows
abbrev pub emptied : Name × Table → Name × Table
emptied t = (t.0, empty_table t.1.owner t.1.columns)

abbrev pub named : Name → Name × Table → Bool
named name t = same_name name t.0

abbrev pub rows_of : Option Table → List (ℕ × Row)
rows_of found = option_map_or (λ t. t.rows) found []

abbrev pub parts : Subject → Contents → List Effect
parts (a_table name) c = map table_made (filter (named name) (map emptied c.tables))
parts (a_row name n) c = map (row_made name) (numbered n (rows_of (table_of c.tables name)))
parts (a_grant n) c = map effects.GrantMade (of_number n c.grants)

-- ---- one item more at the end
module _ {X : Type 0} (test : X → Bool) (xs : List X) (x : X) where
  filter-one : (b : Bool) → test x ≡ b → filter test (xs ++ x ∷ []) ≡ filter test xs ++ cond b (x ∷ []) []
  filter-one b is = filter-append test xs (x ∷ []) ∙ ap (λ k. filter test xs ++ cond k (x ∷ []) []) is

  pub filter-passing : test x ≡ true → filter test (xs ++ x ∷ []) ≡ filter test xs ++ x ∷ []
  filter-passing is = filter-one true is

  pub filter-other : test x ≡ false → filter test (xs ++ x ∷ []) ≡ filter test xs
  filter-other is = filter-one false is ∙ append-nil (filter test xs)

-- ---- a change of one table
emptied-put : (test : Name → Bool) (es : List (Name × Table)) (v w : Table) → lookup test es ≡ Some v → ((k : Name) → emptied (k, w) ≡ emptied (k, v))
    → map emptied (set_value test es w) ≡ map emptied es
emptied-put test [] v w there same = refl
emptied-put test (e ∷ es) v w there same = by (test e.0) there (λ k. emptied-put test es v w k same)
  where
    by : (b : Bool) → cond b (Some e.1) (lookup test es) ≡ Some v → (lookup test es ≡ Some v → map emptied (set_value test es w) ≡ map emptied es)
        → map emptied (cond b ((e.0, w) ∷ es) (e ∷ set_value test es w)) ≡ map emptied (e ∷ es)
    by true is later = let v_is : v ≡ e.1 = cc in ap (λ k. k ∷ map emptied es) (same e.0 ∙ ap (λ t. emptied (e.0, t)) v_is)
    by false is later = ap (λ k. emptied e ∷ k) (later is)

module _ (c : Contents) (name : Name) (change : Table → Table) where
  -- tables stay, but for their rows
  tables-stay : ((t : Table) (k : Name) → emptied (k, change t) ≡ emptied (k, t)) → (other : Name) → parts (a_table other) (in_table name change c) ≡ parts (a_table other) c
  tables-stay keeps other = ap (λ ts. map table_made (filter (named other) ts)) (by (table_of c.tables name) refl)
    where
      by : (found : Option Table) → table_of c.tables name ≡ found → map emptied (in_table name change c).tables ≡ map emptied c.tables
      by None none = ap (map emptied) (with_change-none name change c.tables none)
      by (Some t) there = ap (map emptied) (with_change-some name change c.tables t there) ∙ emptied-put (same_name name) c.tables t (change t) there (keeps t)

  -- rows stay that the change leaves, and those of other tables
  rows-stay : (other : Name) (n : ℕ) → ((t : Table) → same_name name other ≡ true → numbered n (change t).rows ≡ numbered n t.rows)
      → parts (a_row other n) (in_table name change c) ≡ parts (a_row other n) c
  rows-stay other n keeps =
      ap (λ found. map (row_made other) (numbered n (rows_of found))) (table_of-with_change c.tables name other change)
      ∙ ap (map (row_made other)) (by (same_name name other) refl (table_of c.tables other))
    where
      by : (b : Bool) → same_name name other ≡ b → (found : Option Table) → numbered n (rows_of (cond b (option_map change found) found)) ≡ numbered n (rows_of found)
      by true same None = refl
      by true same (Some t) = keeps t same
      by false same found = refl

-- a new table has no rows
rows-behind : (test : Name → Bool) (es : List (Name × Table)) (e : Name × Table) → e.1.rows ≡ [] → rows_of (lookup test (es ++ e ∷ [])) ≡ rows_of (lookup test es)
rows-behind test [] e none = by (test e.0)
  where
    by : (b : Bool) → rows_of (cond b (Some e.1) None) ≡ []
    by true = none
    by false = refl
rows-behind test (f ∷ es) e none = by (test f.0) (rows-behind test es e none)
  where
    by : (b : Bool) → rows_of (lookup test (es ++ e ∷ [])) ≡ rows_of (lookup test es) → rows_of (cond b (Some f.1) (lookup test (es ++ e ∷ []))) ≡ rows_of (cond b (Some f.1) (lookup test es))
    by true later = refl
    by false later = later

-- ---- **effects of other subjects leave it**
-- other rows of one table have other numbers
other-number : (name table : Name) (n m : ℕ) → a_row name n ≢ a_row table m → same_name table name ≡ true → m ≢ n
other-number name table n m other same q = let names = same_name-true table name same in other (cc)

other-name : (name table : Name) → a_table name ≢ a_table table → same_name name table ≡ false
other-name name table other = by (same_name name table) refl
  where
    by : (b : Bool) → same_name name table ≡ b → b ≡ false
    by true same = absurd (other (ap a_table (same_name-true name table same)))
    by false same = refl

pub leaves : (c : Contents) (e : Effect) (s : Subject) → s ≢ subject_of e → parts s (applied c e) ≡ parts s c
leaves c (effects.TableMade table owner columns) (a_table name) other =
    let new : Name × Table = (table, empty_table owner columns) in
    ap (λ ts. map table_made (filter (named name) ts)) (map-append emptied c.tables (new ∷ []))
    ∙ ap (map table_made) (filter-other (named name) (map emptied c.tables) new (other-name name table other))
leaves c (effects.TableMade table owner columns) (a_row name n) other = ap (λ rows. map (row_made name) (numbered n rows)) (rows-behind (same_name name) c.tables (table, empty_table owner columns) refl)
leaves c (effects.TableMade table owner columns) (a_grant n) other = refl
leaves c (effects.RowInserted table m row) (a_table name) other = tables-stay c table (with_inserted m row) (λ t k. refl) name
leaves c (effects.RowInserted table m row) (a_row name n) other =
    rows-stay c table (with_inserted m row) name n (λ t same. filter-other (λ (e : ℕ × Row). eqb e.0 n) t.rows (m, row) (ne_eqb m n (other-number name table n m other same)))
leaves c (effects.RowInserted table m row) (a_grant n) other = refl
leaves c (effects.RowUpdated table m row) (a_table name) other = tables-stay c table (with_updated m row) (λ t k. refl) name
leaves c (effects.RowUpdated table m row) (a_row name n) other = rows-stay c table (with_updated m row) name n (λ t same. other-put n m (other-number name table n m other same) row t.rows)
leaves c (effects.RowUpdated table m row) (a_grant n) other = refl
leaves c (effects.RowDeleted table m) (a_table name) other = tables-stay c table (with_deleted m) (λ t k. refl) name
leaves c (effects.RowDeleted table m) (a_row name n) other = rows-stay c table (with_deleted m) name n (λ t same. other-out n m (other-number name table n m other same) t.rows)
leaves c (effects.RowDeleted table m) (a_grant n) other = refl
leaves c (effects.GrantMade g) (a_grant n) other = ap (map effects.GrantMade) (filter-other (has_number n) c.grants g (ne_eqb g.number n (λ q. other (ap a_grant (sym q)))))
leaves c (effects.OptionLost m) (a_grant n) other = ap (map effects.GrantMade) (other-unoptioned n m (λ q. other (ap a_grant (sym q))) c.grants)
leaves c (effects.GrantFell m) (a_grant n) other = ap (map effects.GrantMade) (other-fell n m (λ q. other (ap a_grant (sym q))) c.grants)
leaves c e s other = refl

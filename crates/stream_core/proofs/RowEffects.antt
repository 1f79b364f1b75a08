-- The effects of changes of tables and rows are the difference that these make.
use Rattle.std.proofs.Common.{◌≡◌, ◌≢◌, ◌<◌, ℕ, Bool, true, false, not, cond, List, [], ◌∷◌, ◌++◌, map, length, Some, refl, sym, ap, subst, ◌∙◌, arith, length-append, inl, inr}
use Rattle.std.specs.List.{AllByRecursion, filter}
use Rattle.std.proofs.lemmas.Bool.{eq-eqb, ne_eqb}
use Rattle.base_core.specs.declared.name.Name.{Name}
use Rattle.base_core.specs.declared.name.User.{User}
use Rattle.base_core.specs.declared.value.Column.{Column}
use Rattle.base_core.specs.declared.value.Row.{Row}
use Rattle.base_core.specs.declared.value.Value.{Value}
use Rattle.base_core.specs.declared.condition.Condition.{Condition}
use Rattle.base_core.specs.declared.condition.Assignment.{Assignment}
use Rattle.copyup_core.specs.Holding.{with_item, without_item}
use Rattle.tables_core.specs.Contents.{Table, assigned_values, empty_table, satisfies, table_of, with_row, with_updated_rows, without_chosen_rows}
use Rattle.tables_core.specs.Laws.{HasRisingNumbers}
use Rattle.stream_core.specs.declared.effect.Effect.{Effect}
use Rattle.stream_core.specs.declared.effect.Effect.TheVariants as effects
use Rattle.stream_core.specs.Effects.{AreEffectsOf, Contents, IsBefore, applied, in_table, subject_of, with_inserted}
use Rattle.stream_core.specs.Updates.{AreUpdates, row_deleted}
use Rattle.stream_core.proofs.Edits.{EachEdits, Up, edited, edited-behind, edits-behind, kept, rises-up, up-from}
use Rattle.stream_core.proofs.OneTable.{EachTurns, changed, changes-on, in_table-changes, in_table-there, leads-on, with_table}

abbrev Numbered : Type 0
Numbered = ℕ × Row

abbrev number_of : Numbered → ℕ
number_of r = r.0

-- ---- edits of the rows of one table
module _ (name : Name) (made : Numbered → Effect) (edit : Numbered → List Numbered → List Numbered)
    (passes : (a : Numbered) (rows : List Numbered) (x : Numbered) → a.0 < x.0 → edit x (a ∷ rows) ≡ a ∷ edit x rows)
    (is : (c : Contents) (x : Numbered) → applied c (made x) ≡ in_table name (λ t. record t { rows = edit x t.rows }) c)
    (before : (x y : Numbered) → x.0 < y.0 → IsBefore (subject_of (made x)) (subject_of (made y))) where
  abbrev on_rows : Numbered → Table → Table
  on_rows x t = record t { rows = edit x t.rows }

  rows-changed : (t : Table) (xs : List Numbered) → changed name made on_rows is t xs ≡ record t { rows = edited number_of number_of edit passes t.rows xs }
  rows-changed t [] = refl
  rows-changed t (x ∷ xs) = rows-changed (on_rows x t) xs

  rows-turn : (t : Table) (xs : List Numbered) → EachEdits number_of number_of edit passes t.rows xs → EachTurns name made on_rows is t xs
  rows-turn t [] each = tt
  rows-turn t (x ∷ xs) each = ((λ same. each.0 (ap (λ u. u.rows) same)), rows-turn (on_rows x t) xs each.1)

  -- where they lead to these rows, they are the difference
  AreEffectsOf-edits : (c : Contents) (t : Table) (xs rows : List Numbered) → table_of c.tables name ≡ Some t → edited number_of number_of edit passes t.rows xs ≡ rows
      → EachEdits number_of number_of edit passes t.rows xs → Up number_of xs → AreEffectsOf c (with_table name c (record t { rows = rows })) (map made xs)
  AreEffectsOf-edits c t xs rows there lead each up = record {
    leads = leads-on name made on_rows is c t xs there ∙ ap (with_table name c) (rows-changed t xs ∙ ap (λ k. record t { rows = k }) lead);
    rises = rises-up number_of made before xs up;
    changes = changes-on name made on_rows is c t xs there (rows-turn t xs each);
  }

-- ---- DELETE
abbrev delete_edit : Numbered → List Numbered → List Numbered
delete_edit x rows = without_item x.0 rows

delete-passes : (a : Numbered) (rows : List Numbered) (x : Numbered) → a.0 < x.0 → delete_edit x (a ∷ rows) ≡ a ∷ delete_edit x rows
delete-passes a rows x lt = ap (λ b. cond b rows (a ∷ without_item x.0 rows)) (ne_eqb a.0 x.0 (λ q. absurd (omega arith)))

abbrev deleted_from : List Numbered → List Numbered → List Numbered
deleted_from rows xs = edited number_of number_of delete_edit delete-passes rows xs

abbrev EachDeletes : List Numbered → List Numbered → Type 0
EachDeletes rows xs = EachEdits number_of number_of delete_edit delete-passes rows xs

no_longer : (a : Numbered) (rows : List Numbered) → rows ≢ a ∷ rows
no_longer a rows same = let long = ap (λ k. length k) same in absurd (omega (arith, long))

first-deleted : (e : Numbered) (rows : List Numbered) → without_item e.0 (e ∷ rows) ≡ rows
first-deleted e rows = ap (λ b. cond b rows (e ∷ without_item e.0 rows)) (eq-eqb e.0 e.0 refl)

module _ (test : Numbered → Bool) where
  above : (e : Numbered) (rows : List Numbered) → Up number_of (e ∷ rows) → AllByRecursion (λ x. e.0 < x.0) (filter test rows)
  above e rows up = kept (λ x. e.0 < x.0) test rows up.0

  delete-leads : (rows : List Numbered) → Up number_of rows → deleted_from rows (filter test rows) ≡ filter (λ r. not (test r)) rows
  delete-leads [] up = refl
  delete-leads (e ∷ rows) up = by (test e) (delete-leads rows up.1)
    where
      by : (b : Bool) → deleted_from rows (filter test rows) ≡ filter (λ r. not (test r)) rows
          → deleted_from (e ∷ rows) (cond b (e ∷ filter test rows) (filter test rows)) ≡ cond (not b) (e ∷ filter (λ r. not (test r)) rows) (filter (λ r. not (test r)) rows)
      by true later = ap (λ k. deleted_from k (filter test rows)) (first-deleted e rows) ∙ later
      by false later = edited-behind number_of number_of delete_edit delete-passes e rows (filter test rows) (above e rows up) ∙ ap (λ k. e ∷ k) later

  delete-each : (rows : List Numbered) → Up number_of rows → EachDeletes rows (filter test rows)
  delete-each [] up = tt
  delete-each (e ∷ rows) up = by (test e) (delete-each rows up.1)
    where
      by : (b : Bool) → EachDeletes rows (filter test rows) → EachDeletes (e ∷ rows) (cond b (e ∷ filter test rows) (filter test rows))
      by true later = ((λ same. no_longer e rows (sym (first-deleted e rows) ∙ same)), subst (λ k. EachDeletes k (filter test rows)) (sym (first-deleted e rows)) later)
      by false later = edits-behind number_of number_of delete_edit delete-passes e rows (filter test rows) (above e rows up) later

  delete-up : (rows : List Numbered) → Up number_of rows → Up number_of (filter test rows)
  delete-up [] up = tt
  delete-up (e ∷ rows) up = by (test e) (delete-up rows up.1)
    where
      by : (b : Bool) → Up number_of (filter test rows) → Up number_of (cond b (e ∷ filter test rows) (filter test rows))
      by true later = (above e rows up, later)
      by false later = later

-- **a DELETE**
pub AreEffectsOf-deleted : (c : Contents) (name : Name) (t : Table) (conditions : List Condition) → table_of c.tables name ≡ Some t → HasRisingNumbers t
    → AreEffectsOf c (in_table name (without_chosen_rows conditions) c) (map (row_deleted name) (filter (satisfies t.columns conditions) t.rows))
AreEffectsOf-deleted c name t conditions there numbered =
    let test = satisfies t.columns conditions in
    let up = up-from number_of t.rows numbered.rising in
    let xs = filter test t.rows in
    subst (λ after. AreEffectsOf c after (map (row_deleted name) xs)) (sym (in_table-there name c t (without_chosen_rows conditions) there))
    (AreEffectsOf-edits name (row_deleted name) delete_edit delete-passes (λ d x. refl) (λ x y lt. (refl, lt))
    c t xs (filter (λ r. not (test r)) t.rows) there (delete-leads test t.rows up) (delete-each test t.rows up) (delete-up test t.rows up))

-- ---- UPDATE
abbrev update_edit : Numbered → List Numbered → List Numbered
update_edit x rows = with_item x.0 x.1 rows

update-passes : (a : Numbered) (rows : List Numbered) (x : Numbered) → a.0 < x.0 → update_edit x (a ∷ rows) ≡ a ∷ update_edit x rows
update-passes a rows x lt = ap (λ b. cond b ((x.0, x.1) ∷ rows) (a ∷ with_item x.0 x.1 rows)) (ne_eqb a.0 x.0 (λ q. absurd (omega arith)))

abbrev updated_in : List Numbered → List Numbered → List Numbered
updated_in rows xs = edited number_of number_of update_edit update-passes rows xs

abbrev EachUpdates : List Numbered → List Numbered → Type 0
EachUpdates rows xs = EachEdits number_of number_of update_edit update-passes rows xs

first-updated : (e : Numbered) (row : Row) (rows : List Numbered) → with_item e.0 row (e ∷ rows) ≡ (e.0, row) ∷ rows
first-updated e row rows = ap (λ b. cond b ((e.0, row) ∷ rows) (e ∷ with_item e.0 row rows)) (eq-eqb e.0 e.0 refl)

abbrev head_row : Row → List Numbered → Row
head_row row [] = row
head_row row (e ∷ rows) = e.1

module _ (name : Name) (assign : List Value → List Value) (test : Numbered → Bool) where
  abbrev assigned : Numbered → Numbered
  assigned r = (r.0, record { values = assign r.1.values })

  abbrev made_update : Numbered → Effect
  made_update x = effects.RowUpdated name x.0 x.1

  -- the new rows that are told, of these rows
  record Tells (rows : List Numbered) (all : List Effect) : Type 0 where
    xs : List Numbered
    all_is : all ≡ map made_update xs
    leads : updated_in rows xs ≡ map (λ r. cond (test r) (assigned r) r) rows
    each : EachUpdates rows xs
    up : Up number_of xs
    later : (n : ℕ) → AllByRecursion (λ r. n < r.0) rows → AllByRecursion (λ x. n < x.0) xs

  -- a row that stays
  stays : (e f : Numbered) (rows : List Numbered) (all : List Effect) → Up number_of (e ∷ rows) → f ≡ e → (t : Tells rows all) → updated_in (e ∷ rows) t.xs ≡ f ∷ map (λ r. cond (test r) (assigned r) r) rows
  stays e f rows all up same t =
      edited-behind number_of number_of update_edit update-passes e rows t.xs (t.later e.0 up.0) ∙ ap (λ k. e ∷ k) t.leads ∙ ap (λ k. k ∷ map (λ r. cond (test r) (assigned r) r) rows) (sym same)

  tells : (rows : List Numbered) (all : List Effect) → Up number_of rows → AreUpdates name assign (filter test rows) all → Tells rows all
  tells [] all up told = record { xs = []; all_is = told; leads = refl; each = tt; up = tt; later = λ n h. tt }
  tells (e ∷ rows) all up told = by (test e) refl told (λ more k. tells rows more up.1 k)
    where
      passed : (t : Tells rows all) (f : Numbered) → f ≡ e → cond (test e) (assigned e) e ≡ f → Tells (e ∷ rows) all
      passed t f same first = record {
        xs = t.xs;
        all_is = t.all_is;
        leads = stays e f rows all up same t ∙ ap (λ k. k ∷ map (λ r. cond (test r) (assigned r) r) rows) (sym first);
        each = edits-behind number_of number_of update_edit update-passes e rows t.xs (t.later e.0 up.0) t.each;
        up = t.up;
        later = λ n h. t.later n h.1;
      }

      by : (b : Bool) → test e ≡ b → AreUpdates name assign (cond b (e ∷ filter test rows) (filter test rows)) all
          → ((more : List Effect) → AreUpdates name assign (filter test rows) more → Tells rows more) → Tells (e ∷ rows) all
      by false out told rest = passed (rest all told) e refl (ap (λ b. cond b (assigned e) e) out)
      by true inside (inl (same, others)) rest =
          passed (rest all others) (assigned e) (ap (λ vs. (e.0, record { values = vs })) same) (ap (λ b. cond b (assigned e) e) inside)
      by true inside (inr (other, (more, others, is))) rest =
          let t = rest more others in
          let row : Row = record { values = assign e.1.values } in
          let first = first-updated e row rows in
          let new : Numbered = (e.0, row) in
          let above = t.later e.0 up.0 in
          record {
            xs = new ∷ t.xs;
            all_is = is ∙ ap (λ k. made_update new ∷ k) t.all_is;
            leads = ap (λ k. updated_in k t.xs) first ∙ edited-behind number_of number_of update_edit update-passes new rows t.xs above ∙ ap (λ k. new ∷ k) t.leads
                ∙ ap (λ b. cond b (assigned e) e ∷ map (λ r. cond (test r) (assigned r) r) rows) (sym inside);
            each = (
              (λ same. other (ap (λ k. (head_row row k).values) (sym first ∙ same))),
              subst (λ k. EachUpdates k t.xs) (sym first) (edits-behind number_of number_of update_edit update-passes new rows t.xs above t.each),
            );
            up = (above, t.up);
            later = λ n h. (h.0, t.later n h.1);
          }

-- **an UPDATE**
pub AreEffectsOf-updated : (c : Contents) (name : Name) (t : Table) (sets : List Assignment) (conditions : List Condition) (all : List Effect) → table_of c.tables name ≡ Some t → HasRisingNumbers t
    → AreUpdates name (assigned_values t.columns sets) (filter (satisfies t.columns conditions) t.rows) all → AreEffectsOf c (in_table name (with_updated_rows sets conditions) c) all
AreEffectsOf-updated c name t sets conditions all there numbered told =
    let test = satisfies t.columns conditions in
    let assign = assigned_values t.columns sets in
    let up = up-from number_of t.rows numbered.rising in
    let k = tells name assign test t.rows all up told in
    let after = in_table name (with_updated_rows sets conditions) c in
    subst (λ es. AreEffectsOf c after es) (sym k.all_is)
    (subst (λ d. AreEffectsOf c d (map (λ x. effects.RowUpdated name x.0 x.1) k.xs)) (sym (in_table-there name c t (with_updated_rows sets conditions) there))
    (AreEffectsOf-edits name (λ x. effects.RowUpdated name x.0 x.1) update_edit update-passes (λ d x. refl) (λ x y lt. (refl, lt))
    c t k.xs (map (λ r. cond (test r) (r.0, record { values = assign r.1.values }) r) t.rows) there k.leads k.each k.up))

-- ---- INSERT
-- **an INSERT**
pub AreEffectsOf-inserted : (c : Contents) (name : Name) (t : Table) (row : Row) → table_of c.tables name ≡ Some t → AreEffectsOf c (in_table name (with_row row) c) (effects.RowInserted name t.inserted row ∷ [])
AreEffectsOf-inserted c name t row there =
    record {
      leads = in_table-there name c t (with_inserted t.inserted row) there ∙ sym (in_table-there name c t (with_row row) there);
      rises = rises-up number_of (λ x. effects.RowInserted name x.0 x.1) (λ x y lt. (refl, lt)) ((t.inserted, row) ∷ []) (tt, tt);
      changes = (in_table-changes name c t (with_inserted t.inserted row) there (λ same. let more = ap (λ u. u.inserted) same in absurd (omega (arith, more))), tt);
    }

-- ---- CREATE TABLE
-- **a creation**
pub AreEffectsOf-created : (c : Contents) (name : Name) (owner : User) (columns : List Column) → AreEffectsOf c (record c { tables = c.tables ++ (name, empty_table owner columns) ∷ [] }) (effects.TableMade name owner columns ∷ [])
AreEffectsOf-created c name owner columns =
    record {
      leads = refl;
      rises = λ i j d less within. absurd (omega arith);
      changes = ((λ same. let long = ap (λ k. length k.tables) same in absurd (omega (arith, long, length-append c.tables ((name, empty_table owner columns) ∷ [])))), tt);
    }

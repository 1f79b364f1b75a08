-- Each change whose values fit keeps the rows fitting.
use Rattle.std.proofs.Common.{◌≡◌, ℕ, zero, suc, Bool, true, false, cond, List, [], ◌∷◌, ◌++◌, not, map, length, Option, Some, None, Result, Ok, Err, refl, sym, ap, ◌∙◌, subst, arith}
use Rattle.std.specs.Prelude.{slice_get, slice_set, filter, option_and_then, OnOk, OnErr}
use Rattle.std.specs.Option.{option_map_or}
use Rattle.std.specs.List.{AllByRecursion, list_all, zip}
use Rattle.std.proofs.lemmas.Bool.{and_parts, and_from}
use Rattle.std.proofs.lemmas.List.{length-map}
use Rattle.base_core.specs.Values.{has_type}
use Rattle.base_core.specs.Filter.{column_index, with_value}
use Rattle.base_core.specs.declared.memory.NoMemory.{NoMemory}
use Rattle.base_core.specs.declared.value.Value.{Value}
use Rattle.base_core.specs.declared.value.Row.{Row}
use Rattle.base_core.specs.declared.value.Column.{Column}
use Rattle.base_core.specs.declared.condition.Condition.{Condition}
use Rattle.base_core.specs.declared.condition.Assignment.{Assignment}
use Rattle.tables_core.specs.Contents.{Table, satisfies, assigned_values, assigned_row, updated_row, with_row, without_chosen_rows, with_updated_rows}
use Rattle.tables_core.specs.Fitting.{ValuesFit, assignment_fits, AssignmentsFit, RowsFit, IsWellTyped}

-- the values fit exactly where they are as many as the columns, and each pair is right
pub ValuesFit-length : (columns : List Column) (values : List Value) → ValuesFit columns values → length columns ≡ length values
ValuesFit-length [] [] h = refl
ValuesFit-length [] (v ∷ vs) h = absurd h
ValuesFit-length (c ∷ cs) [] h = absurd h
ValuesFit-length (c ∷ cs) (v ∷ vs) h = ap suc (ValuesFit-length cs vs h.1)

pub types-of : (columns : List Column) (values : List Value) → ValuesFit columns values → list_all (λ (pair : Column × Value). has_type pair.1 pair.0.ty) (zip columns values) ≡ true
types-of [] [] h = refl
types-of [] (v ∷ vs) h = absurd h
types-of (c ∷ cs) [] h = absurd h
types-of (c ∷ cs) (v ∷ vs) h = and_from _ _ h.0 (types-of cs vs h.1)

pub ValuesFit-from : (columns : List Column) (values : List Value) → length columns ≡ length values → list_all (λ (pair : Column × Value). has_type pair.1 pair.0.ty) (zip columns values) ≡ true → ValuesFit columns values
ValuesFit-from [] [] long h = tt
ValuesFit-from [] (v ∷ vs) long h = absurd (omega (arith, long))
ValuesFit-from (c ∷ cs) [] long h = absurd (omega (arith, long))
ValuesFit-from (c ∷ cs) (v ∷ vs) long h =
    let parts = and_parts (has_type v c.ty) (list_all (λ (pair : Column × Value). has_type pair.1 pair.0.ty) (zip cs vs)) h in
    (parts.0, ValuesFit-from cs vs (omega (arith, long)) parts.1)

-- a value of the column's type, put at its index
fits-set : (columns : List Column) (values : List Value) (i : ℕ) (value : Value) → option_map_or (λ c. has_type value c.ty) (slice_get columns i) true ≡ true → ValuesFit columns values → ValuesFit columns (slice_set values i value)
fits-set [] [] i value typed h = tt
fits-set [] (v ∷ vs) i value typed h = absurd h
fits-set (c ∷ cs) [] i value typed h = absurd h
fits-set (c ∷ cs) (v ∷ vs) zero value typed h = (typed, h.1)
fits-set (c ∷ cs) (v ∷ vs) (suc i) value typed h = (h.0, fits-set cs vs i value typed h.1)

fits-with_value : (columns : List Column) (values : List Value) (at : Option ℕ) (value : Value) → option_map_or (λ c. has_type value c.ty) (option_and_then (slice_get columns) at) true ≡ true → ValuesFit columns values → ValuesFit columns (with_value values at value)
fits-with_value columns values None value typed h = h
fits-with_value columns values (Some i) value typed h = fits-set columns values i value typed h

-- each of the assignments fits exactly where all do
pub AssignmentsFit-all : (columns : List Column) (sets : List Assignment) → AssignmentsFit columns sets → list_all (assignment_fits columns) sets ≡ true
AssignmentsFit-all columns [] h = refl
AssignmentsFit-all columns (set ∷ sets) h = and_from _ _ h.0 (AssignmentsFit-all columns sets h.1)

pub AssignmentsFit-from : (columns : List Column) (sets : List Assignment) → list_all (assignment_fits columns) sets ≡ true → AssignmentsFit columns sets
AssignmentsFit-from columns [] h = tt
AssignmentsFit-from columns (set ∷ sets) h =
    let parts = and_parts (assignment_fits columns set) (list_all (assignment_fits columns) sets) h in
    (parts.0, AssignmentsFit-from columns sets parts.1)

-- the assignments, one after the other
fits-assigned : (columns : List Column) (sets : List Assignment) (values : List Value) → AssignmentsFit columns sets → ValuesFit columns values → ValuesFit columns (assigned_values columns sets values)
fits-assigned columns [] values typed h = h
fits-assigned columns (set ∷ sets) values typed h =
    fits-assigned columns sets (with_value values (column_index columns set.column) set.value) typed.1
    (fits-with_value columns values (column_index columns set.column) set.value typed.0 h)

abbrev Fit : List Column → List (ℕ × Row) → Type 0
Fit columns rows = AllByRecursion (λ numbered. ValuesFit columns numbered.1.values) rows

appended : (columns : List Column) (rows : List (ℕ × Row)) (numbered : ℕ × Row) → ValuesFit columns numbered.1.values → Fit columns rows → Fit columns (rows ++ numbered ∷ [])
appended columns [] numbered new h = (new, tt)
appended columns (r ∷ rows) numbered new h = (h.0, appended columns rows numbered new h.1)

kept : (columns : List Column) (p : ℕ × Row → Bool) (rows : List (ℕ × Row)) → Fit columns rows → Fit columns (filter p rows)
kept columns p [] h = tt
kept columns p (r ∷ rows) h =
    elim (p r) as (λ b. Fit columns (cond b (r ∷ filter p rows) (filter p rows))) [
      | true ↦ (h.0, kept columns p rows h.1)
      | false ↦ kept columns p rows h.1
    ]

updated : (columns : List Column) (sets : List Assignment) (conditions : List Condition) (rows : List (ℕ × Row)) → AssignmentsFit columns sets → Fit columns rows → Fit columns (map (updated_row columns sets conditions) rows)
updated columns sets conditions [] typed h = tt
updated columns sets conditions (r ∷ rows) typed h = (one, updated columns sets conditions rows typed h.1)
  where
    one : ValuesFit columns (updated_row columns sets conditions r).1.values
    one = elim (satisfies columns conditions r) as (λ b. ValuesFit columns (cond b (assigned_row columns sets r) r).1.values) [
      | true ↦ fits-assigned columns sets r.1.values typed h.0
      | false ↦ h.0
    ]

pub RowsFit-with_row : (t : Table) (row : Row) → ValuesFit t.columns row.values → RowsFit t → RowsFit (with_row row t)
RowsFit-with_row t row new h = appended t.columns t.rows (t.inserted, row) new h

pub RowsFit-deleted : (t : Table) (conditions : List Condition) → RowsFit t → RowsFit (without_chosen_rows conditions t)
RowsFit-deleted t conditions h = kept t.columns (λ numbered. not (satisfies t.columns conditions numbered)) t.rows h

pub RowsFit-updated : (t : Table) (sets : List Assignment) (conditions : List Condition) → AssignmentsFit t.columns sets → RowsFit t → RowsFit (with_updated_rows sets conditions t)
RowsFit-updated t sets conditions typed h = updated t.columns sets conditions t.rows typed h

pub IsWellTyped-with_row : (t : Table) (row : Row) → ValuesFit t.columns row.values → IsWellTyped t → IsWellTyped (with_row row t)
IsWellTyped-with_row t row new h = record { columns = h.columns; rows = RowsFit-with_row t row new h.rows }

pub IsWellTyped-deleted : (t : Table) (conditions : List Condition) → IsWellTyped t → IsWellTyped (without_chosen_rows conditions t)
IsWellTyped-deleted t conditions h = record { columns = h.columns; rows = RowsFit-deleted t conditions h.rows }

-- what comes of an update, also where memory is refused
pub IsWellTyped-updated_or_same : (t : Table) (sets : List Assignment) (conditions : List Condition) (rows : List (ℕ × Row)) (result : Result (Unit {0}) NoMemory) → OnOk result (rows ≡ map (updated_row t.columns sets conditions) t.rows) → OnErr result (rows ≡ t.rows) → AssignmentsFit t.columns sets → IsWellTyped t → IsWellTyped (record t { rows = rows })
IsWellTyped-updated_or_same t sets conditions rows (Ok u) ok err typed h =
    record { columns = h.columns; rows = subst (Fit t.columns) (sym ok) (updated t.columns sets conditions t.rows typed h.rows) }
IsWellTyped-updated_or_same t sets conditions rows (Err e) ok err typed h = record { columns = h.columns; rows = subst (Fit t.columns) (sym err) h.rows }

pub length-updated_or_same : (t : Table) (sets : List Assignment) (conditions : List Condition) (rows : List (ℕ × Row)) (result : Result (Unit {0}) NoMemory) → OnOk result (rows ≡ map (updated_row t.columns sets conditions) t.rows) → OnErr result (rows ≡ t.rows) → length rows ≡ length t.rows
length-updated_or_same t sets conditions rows (Ok u) ok err = ap length ok ∙ length-map t.rows (updated_row t.columns sets conditions)
length-updated_or_same t sets conditions rows (Err e) ok err = ap length err

-- The values of an allowed statement fit the columns of its table.
use Rattle.std.proofs.Common.{◌≡◌, true, List, [], ◌∷◌, Option, Some, None, Ok, length, refl, subst, arith}
use Rattle.std.specs.Prelude.{slice_get, option_and_then}
use Rattle.std.specs.Option.{option_map_or}
use Rattle.std.specs.List.{AllByRecursion, zip}
use Rattle.std.proofs.lemmas.Bool.{eqb-true}
use Rattle.base_core.specs.Values.{has_type}
use Rattle.base_core.specs.Filter.{column_index}
use Rattle.base_core.specs.declared.name.Name.{Name}
use Rattle.base_core.specs.declared.name.User.{User}
use Rattle.base_core.specs.declared.value.Value.{Value}
use Rattle.base_core.specs.declared.value.Column.{Column}
use Rattle.base_core.specs.declared.condition.Condition.{Condition}
use Rattle.base_core.specs.declared.condition.Assignment.{Assignment}
use Rattle.reader_core.specs.declared.statement.Statement.TheVariants as statements
use Rattle.tables_core.specs.Contents.{Table, table_of}
use Rattle.tables_core.specs.Fitting.{ValuesFit, AssignmentsFit}
use Rattle.monitor_core.specs.Verdict.{State, checks, verdict, columns_of, takes, column_takes}
use Rattle.monitor_core.proofs.Passing.{require-Ok, passed, each-Ok}

-- as many values as columns, each taken by its column
fits-zip : (columns : List Column) (values : List Value) → length values ≡ length columns → AllByRecursion (λ (pair : Column × Value). takes pair.0 pair.1 ≡ Ok tt) (zip columns values) → ValuesFit columns values
fits-zip [] [] long h = tt
fits-zip [] (v ∷ vs) long h = absurd (omega (arith, long))
fits-zip (c ∷ cs) [] long h = absurd (omega (arith, long))
fits-zip (c ∷ cs) (v ∷ vs) long h = (require-Ok _ _ h.0, fits-zip cs vs (omega (arith, long)) h.1)

-- the column, if there is one, takes the value
taken : (value : Value) (column : Option Column) → option_map_or (λ c. takes c value) column (Ok tt) ≡ Ok tt → option_map_or (λ c. has_type value c.ty) column true ≡ true
taken value None h = refl
taken value (Some c) h = require-Ok _ _ h

module _ (s : State) (user : User) (table : Name) (t : Table) (there : table_of s.tables table ≡ Some t) where
  assigned : (sets : List Assignment) → AllByRecursion (λ a. column_takes s table a.column a.value ≡ Ok tt) sets → AssignmentsFit t.columns sets
  assigned [] h = tt
  assigned (set ∷ sets) h =
      let By : Option Table → Type 0 = λ o. option_map_or (λ c. takes c set.value) (option_and_then (λ u. option_and_then (slice_get u.columns) (column_index u.columns set.column)) o) (Ok tt) ≡ Ok tt in
      (taken set.value (option_and_then (slice_get t.columns) (column_index t.columns set.column)) (subst By there h.0), assigned sets h.1)

  pub ValuesFit-allowed : (values : List Value) → verdict s user (statements.Insert table values) ≡ Ok tt → ValuesFit t.columns values
  ValuesFit-allowed values ok =
      let parts = passed (checks s user (statements.Insert table values)) ok in
      let By : Option Table → Type 0 = λ o. ValuesFit (option_map_or (λ u. u.columns) o []) values in
      subst By there
      (fits-zip (columns_of s.tables table) values (eqb-true _ _ (require-Ok _ _ parts.1.1.0)) (each-Ok (λ pair. takes pair.0 pair.1) (zip (columns_of s.tables table) values) parts.1.1.1.0))

  pub AssignmentsFit-allowed : (sets : List Assignment) (filter : List Condition) → verdict s user (statements.Update table sets filter) ≡ Ok tt → AssignmentsFit t.columns sets
  AssignmentsFit-allowed sets filter ok =
      assigned sets (each-Ok (λ a. column_takes s table a.column a.value) sets (passed (checks s user (statements.Update table sets filter)) ok).1.1.1.1.1.0)

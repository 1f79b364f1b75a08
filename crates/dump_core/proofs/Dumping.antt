-- The dump, statement by statement: each is allowed, and what it leads to.
use Rattle.std.proofs.Common.{◌≡◌, ℕ, ◌+◌, ◌<◌, ◌≤◌, Bool, true, false, not, ◌||◌, cond, ltb, eqb, subst, suc, List, [], ◌∷◌, ◌++◌, map, length, Option, Some, None, Ok, option_map, refl, sym, ap, ◌∙◌, append_assoc, append-nil, arith}
use Rattle.std.specs.Prelude.{is_some}
use Rattle.std.specs.Option.{option_map_or}
use Rattle.std.specs.List.{AllByRecursion, IsDistinct, list_any, flat_map, zip}
use Rattle.std.specs.Map.{keys_of, set_value}
use Rattle.std.proofs.lemmas.Bool.{cond-true, lt-ltb, eq-eqb, both_ways, false_from_ne_true}
use Rattle.std.proofs.lemmas.List.{map-append, length-append, length-map}
use Rattle.base_core.specs.Words.{same_name}
use Rattle.base_core.specs.Users.{same_user}
use Rattle.base_core.specs.Values.{has_type}
use Rattle.base_core.specs.Privileges.{of_table}
use Rattle.base_core.specs.declared.name.Name.{Name}
use Rattle.base_core.specs.declared.name.User.{User}
use Rattle.base_core.specs.declared.limits.Limits.{Limits}
use Rattle.base_core.specs.declared.value.Column.{Column}
use Rattle.base_core.specs.declared.value.Row.{Row}
use Rattle.base_core.specs.declared.value.Value.{Value}
use Rattle.base_core.specs.declared.privilege.Kind.TheVariants as kinds
use Rattle.base_core.specs.declared.privilege.Atom.{Atom}
use Rattle.base_core.specs.declared.lack.Lack.{Lack}
use Rattle.base_core.specs.declared.lack.Lack.TheVariants as lacks
use Rattle.base_core.specs.declared.lack.What.TheVariants as whats
use Rattle.base_core.proofs.SameLemmas.{same_name-true, same_name-refl, same_user-refl}
use Rattle.reader_core.specs.declared.statement.Statement.{Statement}
use Rattle.reader_core.specs.declared.statement.Statement.TheVariants as statements
use Rattle.tables_core.specs.Contents.{Table, empty_table, with_row, with_change, table_of}
use Rattle.tables_core.specs.Fitting.{ValuesFit, RowsFit}
use Rattle.tables_core.proofs.ContentsLemmas.{with_change-some}
use Rattle.grants_core.specs.declared.grant.Grant.{Grant}
use Rattle.grants_core.specs.declared.grant.Ownership.{Ownership}
use Rattle.grants_core.specs.Owners.{owner_of, owns}
use Rattle.grants_core.specs.Content as rights
use Rattle.grants_core.specs.Content.{Rights, gives}
use Rattle.monitor_core.specs.Verdict.{State, Check, require, first_lack, each, is_table, columns_of, takes, checks, is_change}
use Rattle.system_core.specs.declared.machine.event.Entry.{Entry}
use Rattle.system_core.specs.Journal.{tables_at, tables_after, change_of, rights_at, state_of, verdict_at, IsLawful}
use Rattle.system_core.specs.Carrying.{rights_after}
use Rattle.system_core.proofs.Keeping.{contents-more, lawful-more}
use Rattle.dump_core.specs.Dump.{creation, insertion, insertions}
use Rattle.dump_core.specs.Alike.{plain_grants}
use Rattle.dump_core.proofs.Facts.{known, rights-more}
use Rattle.dump_core.proofs.Steps.{owners-stand, in_room}

-- ---- checks that pass
pub all_pass : (all : List Check) → AllByRecursion (λ check. check ≡ Ok tt) all → first_lack all ≡ Ok tt
all_pass [] h = refl
all_pass (check ∷ more) h = ap (λ c. first_lack (c ∷ more)) h.0 ∙ all_pass more h.1

pub each_pass : {A : Type 0} (f : A → Check) (xs : List A) → AllByRecursion (λ x. f x ≡ Ok tt) xs → each xs f ≡ Ok tt
each_pass f [] h = refl
each_pass f (x ∷ xs) h = ap (λ c. first_lack (c ∷ map f xs)) h.0 ∙ each_pass f xs h.1

pub pass : (b : Bool) (lack : Lack) → b ≡ true → require b lack ≡ Ok tt
pass b lack h = ap (λ t. require t lack) h

-- ---- what a journal has reached
-- it is lawful, and has these tables and, but for numbers and moments, these grants in force
pub record Reaches (l : Limits) (j : List Entry) (ts : List (Name × Table)) (gs : List Grant) : Type 0 where
  pub lawful : IsLawful l j
  pub tables : tables_at j ≡ ts
  pub grants : plain_grants (rights_at j).in_force ≡ plain_grants gs

pub reach-more : (l : Limits) (j : List Entry) (ts : List (Name × Table)) (gs hs : List Grant) (user : User) (s : Statement) → Reaches l j ts gs → is_change s ≡ true → verdict_at l j user s ≡ Ok tt
    → plain_grants (rights_after (rights_at j) (length j) (change_of (tables_at j) user s)).in_force ≡ plain_grants hs → Reaches l (j ++ record { pass = 0; user = user; statement = s } ∷ []) (tables_after ts user s) hs
reach-more l j ts gs hs user s r change ok after = record {
  lawful = lawful-more l [] j (record { pass = 0; user = user; statement = s }) r.lawful ok change;
  tables = contents-more j (record { pass = 0; user = user; statement = s }) ∙ ap (λ k. tables_after k user s) r.tables;
  grants = ap (λ (c : Rights). plain_grants c.in_force) (rights-more l j user s (known l j r.lawful).on ok 0) ∙ after;
}

pub reach-tables : (l : Limits) (j : List Entry) (ts us : List (Name × Table)) (gs : List Grant) → ts ≡ us → Reaches l j ts gs → Reaches l j us gs
reach-tables l j ts us gs e r = record { lawful = r.lawful; tables = r.tables ∙ e; grants = r.grants }

pub reach-journal : (l : Limits) (j k : List Entry) (ts : List (Name × Table)) (gs : List Grant) → j ≡ k → Reaches l j ts gs → Reaches l k ts gs
reach-journal l j k ts gs e r = let P : List Entry → Type 0 = λ i. Reaches l i ts gs in subst P e r

-- ---- tables of different names
-- no later table has the name of an earlier one
abbrev pub Apart : List (Name × Table) → Type 0
Apart [] = Unit {0}
Apart (t ∷ ts) = AllByRecursion (λ u. same_name u.0 t.0 ≡ false) ts × Apart ts

pub flip : (a b : Name) → same_name a b ≡ false → same_name b a ≡ false
flip a b h = false_from_ne_true _ (λ same. let P : Name → Type 0 = λ n. same_name n b ≡ true in both_ways _ h (subst P (same_name-true b a same) (same_name-refl b)))

pub apart-from_distinct : (ts : List (Name × Table)) → IsDistinct same_name (keys_of ts) → Apart ts
unfolding IsDistinct
apart-from_distinct [] h = tt
apart-from_distinct (t ∷ ts) h = (flipped ts h.0, apart-from_distinct ts h.1)
  where
    flipped : (us : List (Name × Table)) → AllByRecursion (λ n. same_name t.0 n ≡ false) (keys_of us) → AllByRecursion (λ u. same_name u.0 t.0 ≡ false) us
    flipped [] k = tt
    flipped (u ∷ us) k = (flip t.0 u.0 k.0, flipped us k.1)

middle : (P : Name × Table → Type 0) (done : List (Name × Table)) (t : Name × Table) (ts : List (Name × Table)) → AllByRecursion P (done ++ t ∷ ts) → P t
middle P [] t ts h = h.0
middle P (d ∷ done) t ts h = middle P done t ts h.1

-- the name of a table is none of those before it
abbrev IsNewTo : Name → List (Name × Table) → Type 0
IsNewTo name done = AllByRecursion (λ d. same_name name d.0 ≡ false) done

pub new_to : (done : List (Name × Table)) (t : Name × Table) (ts : List (Name × Table)) → Apart (done ++ t ∷ ts) → IsNewTo t.0 done
new_to [] t ts h = tt
new_to (d ∷ done) t ts h = (middle (λ u. same_name u.0 d.0 ≡ false) done t ts h.0, new_to done t ts h.1)

-- the same of tables made of them under their names
new_to-map : (name : Name) (f : Table → Table) (done : List (Name × Table)) → IsNewTo name done → IsNewTo name (map (λ t. (t.0, f t.1)) done)
new_to-map name f [] h = tt
new_to-map name f (d ∷ done) h = (h.0, new_to-map name f done h.1)

none_there : (name : Name) (done : List (Name × Table)) → IsNewTo name done → table_of done name ≡ None
none_there name [] h = refl
none_there name (d ∷ done) h = ap (λ b. cond b (Some d.1) (table_of done name)) h.0 ∙ none_there name done h.1

pub there : (name : Name) (t : Table) (done rest : List (Name × Table)) → IsNewTo name done → table_of (done ++ (name, t) ∷ rest) name ≡ Some t
there name t [] rest h = cond-true (same_name name name) (Some t) (table_of rest name) (same_name-refl name)
there name t (d ∷ done) rest h = ap (λ b. cond b (Some d.1) (table_of (done ++ (name, t) ∷ rest) name)) h.0 ∙ there name t done rest h.1

set_there : (name : Name) (t u : Table) (done rest : List (Name × Table)) → IsNewTo name done → set_value (same_name name) (done ++ (name, t) ∷ rest) u ≡ done ++ (name, u) ∷ rest
set_there name t u [] rest h = cond-true (same_name name name) ((name, u) ∷ rest) ((name, t) ∷ set_value (same_name name) rest u) (same_name-refl name)
set_there name t u (d ∷ done) rest h =
    ap (λ b. cond b ((d.0, u) ∷ (done ++ (name, t) ∷ rest)) (d ∷ set_value (same_name name) (done ++ (name, t) ∷ rest) u)) h.0
    ∙ ap (λ k. d ∷ k) (set_there name t u done rest h.1)

changed_there : (name : Name) (f : Table → Table) (t : Table) (done rest : List (Name × Table)) → IsNewTo name done → with_change name f (done ++ (name, t) ∷ rest) ≡ done ++ (name, f t) ∷ rest
changed_there name f t done rest h = with_change-some name f (done ++ (name, t) ∷ rest) t (there name t done rest h) ∙ set_there name t (f t) done rest h

-- ---- creations
-- a table as it is created, and with these rows inserted
abbrev pub blank : Table → Table
blank t = empty_table t.owner t.columns

abbrev pub inserted : Table → List (ℕ × Row) → Table
inserted t [] = t
inserted t (r ∷ rs) = inserted (with_row r.1 t) rs

abbrev pub blanks : List (Name × Table) → List (Name × Table)
blanks ts = map (λ t. (t.0, blank t.1)) ts

abbrev pub filled : List (Name × Table) → List (Name × Table)
filled ts = map (λ t. (t.0, inserted (blank t.1) t.1.rows)) ts

module _ (l : Limits) where
  pub created : (j : List Entry) (done : List (Name × Table)) (ts : List (Name × Table)) → Reaches l j (blanks done) [] → Apart (done ++ ts) → length j + length ts ≤ l.changes → length done + length ts ≤ l.tables → Reaches l (j ++ map creation ts) (blanks (done ++ ts)) []
  created j done [] r apart few room =
      reach-journal l j (j ++ []) (blanks (done ++ [])) [] (sym (append-nil j)) (reach-tables l j (blanks done) (blanks (done ++ [])) [] (ap blanks (sym (append-nil done))) r)
  created j done (t ∷ ts) r apart few room =
      let fresh : table_of (tables_at j) t.0 ≡ None = ap (λ k. table_of k t.0) r.tables ∙ none_there t.0 (blanks done) (new_to-map t.0 blank done (new_to done t ts apart)) in
      let count : length (tables_at j) ≡ length done = ap length r.tables ∙ length-map done (λ u. (u.0, blank u.1)) in
      let s : Statement = statements.CreateTable t.0 t.1.columns in
      let few_j : length j < l.changes = omega (arith, few) in
      let few_t : length (tables_at j) < l.tables = omega (arith, room, count) in
      let ok : verdict_at l j t.1.owner s ≡ Ok tt = all_pass (checks (state_of l j) t.1.owner s) (
        pass (not (is_table (tables_at j) t.0)) (lacks.TableExists t.0) (ap (λ o. not (is_some o)) fresh),
        (
          in_room l j few_j,
          (
            pass (ltb (length (tables_at j)) l.tables) (lacks.Full whats.Tables) (lt-ltb _ _ few_t),
            tt,
          ),
        ),
      ) in
      let next = reach-more l j (blanks done) [] [] t.1.owner s r refl ok r.grants in
      let tables : blanks done ++ (t.0, blank t.1) ∷ [] ≡ blanks (done ++ t ∷ []) = sym (map-append (λ u. (u.0, blank u.1)) done (t ∷ [])) in
      let Tables : List (Name × Table) → Type 0 = Apart in
      let long : length (j ++ creation t ∷ []) ≡ length j + 1 = length-append j (creation t ∷ []) in
      let wide : length (done ++ t ∷ []) ≡ length done + 1 = length-append done (t ∷ []) in
      let rest = created (j ++ creation t ∷ []) (done ++ t ∷ []) ts (reach-tables l _ _ _ [] tables next) (subst Tables (sym (append_assoc done (t ∷ []) ts)) apart) (omega (arith, few, long)) (omega (arith, room, wide)) in
      reach-journal l _ _ _ [] (append_assoc j (creation t ∷ []) (map creation ts)) (reach-tables l _ _ _ [] (ap blanks (append_assoc done (t ∷ []) ts)) rest)

  -- ---- insertions
  owner-owns : (os : List Ownership) (user : User) (atom : Atom) → owner_of os atom.table ≡ Some user → owns os user atom ≡ true
  unfolding owns
  owner-owns os user atom h = ap (λ (o : Option User). elim o as (λ _. Bool) [ Some p ↦ same_user p user | None ↦ false ]) h ∙ same_user-refl user

  pub fits-length : (columns : List Column) (values : List Value) → ValuesFit columns values → length values ≡ length columns
  fits-length [] [] h = refl
  fits-length (c ∷ cs) (v ∷ vs) h = ap suc (fits-length cs vs h.1)
  fits-length [] (v ∷ vs) h = absurd h
  fits-length (c ∷ cs) [] h = absurd h

  fits-each : (columns : List Column) (values : List Value) → ValuesFit columns values → AllByRecursion (λ (pair : Column × Value). takes pair.0 pair.1 ≡ Ok tt) (zip columns values)
  fits-each [] [] h = tt
  fits-each (c ∷ cs) (v ∷ vs) h = (pass (has_type v c.ty) (lacks.WrongType c.name c.ty) h.0, fits-each cs vs h.1)
  fits-each [] (v ∷ vs) h = absurd h
  fits-each (c ∷ cs) [] h = absurd h

  insert-allowed : (j : List Entry) (name : Name) (t : Table) (values : List Value) → IsLawful l j → table_of (tables_at j) name ≡ Some t → ValuesFit t.columns values → length j < l.changes → verdict_at l j t.owner (statements.Insert name values) ≡ Ok tt
  insert-allowed j name t values lawful here fit few =
      let at : State = state_of l j in
      let s : Statement = statements.Insert name values in
      let columns : columns_of (tables_at j) name ≡ t.columns = ap (λ o. option_map_or (λ (u : Table). u.columns) o []) here in
      let owner : owner_of (rights_at j).owners name ≡ Some t.owner = owners-stand l j lawful name ∙ ap (option_map (λ (u : Table). u.owner)) here in
      let own : owns (rights_at j).owners t.owner (of_table name kinds.Insert) ≡ true = owner-owns (rights_at j).owners t.owner (of_table name kinds.Insert) owner in
      let Count : List Column → Type 0 = λ cs. require (eqb (length values) (length cs)) (lacks.WrongCount (length values) (length cs)) ≡ Ok tt in
      let Types : List Column → Type 0 = λ cs. each (zip cs values) (λ pair. takes pair.0 pair.1) ≡ Ok tt in
      all_pass (checks at t.owner s) (
        pass (is_table (tables_at j) name) (lacks.NoTable name) (ap is_some here),
        (
          pass (rights.holds (rights_at j).owners (rights_at j).in_force t.owner (of_table name kinds.Insert)) (lacks.NoPrivilege t.owner (of_table name kinds.Insert)) (ap (λ b. b || list_any (gives t.owner (of_table name kinds.Insert)) (rights_at j).in_force) own),
          (
            subst Count (sym columns) (pass (eqb (length values) (length t.columns)) (lacks.WrongCount (length values) (length t.columns)) (eq-eqb _ _ (fits-length t.columns values fit))),
            (
              subst Types (sym columns) (each_pass (λ pair. takes pair.0 pair.1) (zip t.columns values) (fits-each t.columns values fit)),
              (
                in_room l j few,
                tt,
              ),
            ),
          ),
        ),
      )

  rows_in : (j : List Entry) (name : Name) (done rest : List (Name × Table)) (t : Table) (rows : List (ℕ × Row)) → Reaches l j (done ++ (name, t) ∷ rest) [] → IsNewTo name done → AllByRecursion (λ r. ValuesFit t.columns r.1.values) rows → length j + length rows ≤ l.changes
      → Reaches l (j ++ map (insertion name t.owner) rows) (done ++ (name, inserted t rows) ∷ rest) []
  rows_in j name done rest t [] r fresh fit few = reach-journal l j (j ++ []) _ [] (sym (append-nil j)) r
  rows_in j name done rest t (row ∷ rows) r fresh fit few =
      let s : Statement = statements.Insert name row.1.values in
      let e : Entry = insertion name t.owner row in
      let here : table_of (tables_at j) name ≡ Some t = ap (λ k. table_of k name) r.tables ∙ there name t done rest fresh in
      let few_j : length j < l.changes = omega (arith, few) in
      let ok = insert-allowed j name t row.1.values r.lawful here fit.0 few_j in
      let next = reach-more l j (done ++ (name, t) ∷ rest) [] [] t.owner s r refl ok r.grants in
      let long : length (j ++ e ∷ []) ≡ length j + 1 = length-append j (e ∷ []) in
      let more = rows_in (j ++ e ∷ []) name done rest (with_row row.1 t) rows (reach-tables l _ _ _ [] (changed_there name (with_row row.1) t done rest fresh) next) fresh fit.1 (omega (arith, few, long)) in
      reach-journal l _ _ _ [] (append_assoc j (e ∷ []) (map (insertion name t.owner) rows)) more

  pub all_in : (j : List Entry) (done ts : List (Name × Table)) → Reaches l j (filled done ++ blanks ts) [] → Apart (done ++ ts) → AllByRecursion (λ t. RowsFit t.1) ts → length j + length (flat_map insertions ts) ≤ l.changes
      → Reaches l (j ++ flat_map insertions ts) (filled (done ++ ts)) []
  all_in j done [] r apart fit few =
      reach-journal l j (j ++ []) _ [] (sym (append-nil j)) (reach-tables l j _ _ [] (append-nil (filled done) ∙ ap filled (sym (append-nil done))) r)
  all_in j done (t ∷ ts) r apart fit few =
      let here : List Entry = insertions t in
      let count : length (here ++ flat_map insertions ts) ≡ length here + length (flat_map insertions ts) = length-append here (flat_map insertions ts) in
      let many : length here ≡ length t.1.rows = length-map t.1.rows (insertion t.0 t.1.owner) in
      let fresh : IsNewTo t.0 (filled done) = new_to-map t.0 (λ u. inserted (blank u) u.rows) done (new_to done t ts apart) in
      let next = rows_in j t.0 (filled done) (blanks ts) (blank t.1) t.1.rows r fresh fit.0 (omega (arith, few, count, many)) in
      let tables : filled done ++ (t.0, inserted (blank t.1) t.1.rows) ∷ blanks ts ≡ filled (done ++ t ∷ []) ++ blanks ts =
      sym (append_assoc (filled done) ((t.0, inserted (blank t.1) t.1.rows) ∷ []) (blanks ts)) ∙ ap (λ k. k ++ blanks ts) (sym (map-append (λ u. (u.0, inserted (blank u.1) u.1.rows)) done (t ∷ []))) in
      let Tables : List (Name × Table) → Type 0 = Apart in
      let long : length (j ++ here) ≡ length j + length here = length-append j here in
      let rest = all_in (j ++ here) (done ++ t ∷ []) ts (reach-tables l _ _ _ [] tables next) (subst Tables (sym (append_assoc done (t ∷ []) ts)) apart) fit.1 (omega (arith, few, count, long)) in
      reach-journal l _ _ _ [] (append_assoc j here (flat_map insertions ts)) (reach-tables l _ _ _ [] (ap filled (append_assoc done (t ∷ []) ts)) rest)

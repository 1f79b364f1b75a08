-- Tables without the numbers of their rows: what is looked up in them, and what a change makes of them.
use Rattle.std.proofs.Common.{◌≡◌, ℕ, Bool, true, false, not, cond, List, [], ◌∷◌, ◌++◌, map, Option, Some, None, option_map, length, refl, sym, ap, ◌∙◌}
use Rattle.std.specs.Option.{is_some, option_map_or}
use Rattle.std.specs.Map.{set_value}
use Rattle.std.specs.List.{filter}
use Rattle.std.proofs.lemmas.List.{map-append, length-map}
use Rattle.std.proofs.lemmas.Map.Made.{lookup-map_values}
use Rattle.base_core.specs.Words.{same_name}
use Rattle.base_core.specs.declared.name.Name.{Name}
use Rattle.base_core.specs.declared.name.User.{User}
use Rattle.base_core.specs.declared.value.Column.{Column}
use Rattle.base_core.specs.declared.value.Row.{Row}
use Rattle.base_core.specs.declared.condition.Condition.{Condition}
use Rattle.base_core.specs.declared.condition.Assignment.{Assignment}
use Rattle.reader_core.specs.declared.statement.Statement.{Statement}
use Rattle.reader_core.specs.declared.statement.Statement.TheVariants as statements
use Rattle.tables_core.specs.Contents.{Table, empty_table, satisfies, assigned_row, updated_row, with_row, without_chosen_rows, with_updated_rows, with_change, table_of}
use Rattle.tables_core.proofs.ContentsLemmas.{with_change-some, with_change-none}
use Rattle.grants_core.specs.declared.grant.Change.TheVariants as change
use Rattle.monitor_core.specs.Atoms.{atoms_of}
use Rattle.monitor_core.specs.Verdict.{is_table, columns_of}
use Rattle.system_core.specs.Journal.{tables_after, change_of}
use Rattle.system_core.proofs.Owning.{owner_in}
use Rattle.dump_core.specs.Alike.{unnumbered, plain_tables}

-- ---- look-ups
module _ {X : Type 0} (f : Option Table → X) (same : (o : Option Table) → f (option_map unnumbered o) ≡ f o) where
  looked_up : (ts : List (Name × Table)) (name : Name) → f (table_of (plain_tables ts) name) ≡ f (table_of ts name)
  looked_up ts name = ap f (lookup-map_values unnumbered (same_name name) ts) ∙ same (table_of ts name)

  -- what asks for no number finds the same
  pub found-alike : (ts us : List (Name × Table)) → plain_tables ts ≡ plain_tables us → (name : Name) → f (table_of ts name) ≡ f (table_of us name)
  found-alike ts us e name = sym (looked_up ts name) ∙ ap (λ k. f (table_of k name)) e ∙ looked_up us name

some-plain : (o : Option Table) → is_some (option_map unnumbered o) ≡ is_some o
some-plain None = refl
some-plain (Some t) = refl

columns-plain : (o : Option Table) → option_map_or (λ (t : Table). t.columns) (option_map unnumbered o) [] ≡ option_map_or (λ t. t.columns) o []
columns-plain None = refl
columns-plain (Some t) = refl

owner-plain : (o : Option Table) → option_map (λ (t : Table). t.owner) (option_map unnumbered o) ≡ option_map (λ t. t.owner) o
owner-plain None = refl
owner-plain (Some t) = refl

module _ (ts us : List (Name × Table)) (e : plain_tables ts ≡ plain_tables us) where
  pub is_table-alike : (name : Name) → is_table ts name ≡ is_table us name
  is_table-alike = found-alike is_some some-plain ts us e

  pub columns-alike : (name : Name) → columns_of ts name ≡ columns_of us name
  columns-alike = found-alike (λ o. option_map_or (λ t. t.columns) o []) columns-plain ts us e

  pub owner-alike : (name : Name) → owner_in ts name ≡ owner_in us name
  owner-alike = found-alike (option_map (λ t. t.owner)) owner-plain ts us e

  pub length-alike : length ts ≡ length us
  length-alike = sym (length-map ts (λ t. (t.0, unnumbered t.1))) ∙ ap length e ∙ length-map us (λ t. (t.0, unnumbered t.1))

  -- a statement makes the same change of rights
  pub change-alike : (user : User) (s : Statement) → change_of ts user s ≡ change_of us user s
  change-alike user (statements.Grant asked table users option) = ap (λ (columns : List Column). change.Grant user (atoms_of table columns asked) users option) (columns-alike table)
  change-alike user (statements.Revoke asked table users) = ap (λ (columns : List Column). change.Revoke user (atoms_of table columns asked) users) (columns-alike table)
  change-alike user (statements.RevokeOption asked table users) = ap (λ (columns : List Column). change.RevokeOption user (atoms_of table columns asked) users) (columns-alike table)
  change-alike user _ = refl

-- ---- changes to a table
-- a row under number 0
abbrev plain_row : ℕ × Row → ℕ × Row
plain_row numbered = (0, numbered.1)

abbrev pub plain_rows : List (ℕ × Row) → List (ℕ × Row)
plain_rows rows = map plain_row rows

pub plain_rows-twice : (rows : List (ℕ × Row)) → plain_rows (plain_rows rows) ≡ plain_rows rows
plain_rows-twice [] = refl
plain_rows-twice (r ∷ rs) = ap (λ k. plain_row r ∷ k) (plain_rows-twice rs)

-- the numbers don't matter to the change
abbrev IsBlind : (Table → Table) → Type 0
IsBlind f = (t : Table) → unnumbered (f t) ≡ unnumbered (f (unnumbered t))

plain-set_value : (p : Name → Bool) (ts : List (Name × Table)) (t : Table) → plain_tables (set_value p ts t) ≡ set_value p (plain_tables ts) (unnumbered t)
plain-set_value p [] t = refl
plain-set_value p (e ∷ es) t =
    by (p e.0)
    ∙ ap (λ k. cond (p e.0) ((e.0, unnumbered t) ∷ plain_tables es) ((e.0, unnumbered e.1) ∷ k)) (plain-set_value p es t)
  where
    by : (b : Bool) → plain_tables (cond b ((e.0, t) ∷ es) (e ∷ set_value p es t)) ≡ cond b ((e.0, unnumbered t) ∷ plain_tables es) ((e.0, unnumbered e.1) ∷ plain_tables (set_value p es t))
    by true = refl
    by false = refl

plain-change : (table : Name) (f : Table → Table) (ts : List (Name × Table)) → IsBlind f → plain_tables (with_change table f ts) ≡ with_change table (λ t. unnumbered (f t)) (plain_tables ts)
plain-change table f ts blind = by (table_of ts table) refl
  where
    plain : table_of (plain_tables ts) table ≡ option_map unnumbered (table_of ts table)
    plain = lookup-map_values unnumbered (same_name table) ts

    by : (o : Option Table) → table_of ts table ≡ o → plain_tables (with_change table f ts) ≡ with_change table (λ t. unnumbered (f t)) (plain_tables ts)
    by None none =
        ap plain_tables (with_change-none table f ts none)
        ∙ sym (with_change-none table (λ t. unnumbered (f t)) (plain_tables ts) (plain ∙ ap (option_map unnumbered) none))
    by (Some t) there =
        ap plain_tables (with_change-some table f ts t there)
        ∙ plain-set_value (same_name table) ts (f t)
        ∙ ap (set_value (same_name table) (plain_tables ts)) (blind t)
        ∙ sym (with_change-some table (λ u. unnumbered (f u)) (plain_tables ts) (unnumbered t) (plain ∙ ap (option_map unnumbered) there))

change-both : (table : Name) (f : Table → Table) (ts us : List (Name × Table)) → IsBlind f → plain_tables ts ≡ plain_tables us → plain_tables (with_change table f ts) ≡ plain_tables (with_change table f us)
change-both table f ts us blind e = plain-change table f ts blind ∙ ap (with_change table (λ t. unnumbered (f t))) e ∙ sym (plain-change table f us blind)

-- equal rows make equal tables
with_rows : (t : Table) (rows others : List (ℕ × Row)) → rows ≡ others → ◌≡◌ {A = Table} (record t { inserted = 0; rows = rows }) (record t { inserted = 0; rows = others })
with_rows t rows others e = ap (λ k. record t { inserted = 0; rows = k }) e

insert-blind : (row : Row) → IsBlind (with_row row)
insert-blind row t = with_rows t _ _ (
    map-append plain_row t.rows ((t.inserted, row) ∷ [])
    ∙ ap (λ k. k ++ (0, row) ∷ []) (sym (plain_rows-twice t.rows))
    ∙ sym (map-append plain_row (plain_rows t.rows) ((0, row) ∷ []))
    )

delete-blind : (conditions : List Condition) → IsBlind (without_chosen_rows conditions)
delete-blind conditions t = with_rows t _ _ (left t.rows)
  where
    left : (rows : List (ℕ × Row)) → plain_rows (filter (λ n. not (satisfies t.columns conditions n)) rows) ≡ plain_rows (filter (λ n. not (satisfies t.columns conditions n)) (plain_rows rows))
    left [] = refl
    left (r ∷ rs) = one (satisfies t.columns conditions r) (left rs)
      where
        one : (b : Bool) → plain_rows (filter (λ n. not (satisfies t.columns conditions n)) rs) ≡ plain_rows (filter (λ n. not (satisfies t.columns conditions n)) (plain_rows rs))
            → plain_rows (cond (not b) (r ∷ filter (λ n. not (satisfies t.columns conditions n)) rs) (filter (λ n. not (satisfies t.columns conditions n)) rs))
            ≡ plain_rows (cond (not b) (plain_row r ∷ filter (λ n. not (satisfies t.columns conditions n)) (plain_rows rs)) (filter (λ n. not (satisfies t.columns conditions n)) (plain_rows rs)))
        one true rest = rest
        one false rest = ap (λ k. plain_row r ∷ k) rest

update-blind : (sets : List Assignment) (conditions : List Condition) → IsBlind (with_updated_rows sets conditions)
update-blind sets conditions t = with_rows t _ _ (made t.rows)
  where
    one : (b : Bool) (r : ℕ × Row) → plain_row (cond b (assigned_row t.columns sets r) r) ≡ plain_row (cond b (assigned_row t.columns sets (plain_row r)) (plain_row r))
    one true r = refl
    one false r = refl

    made : (rows : List (ℕ × Row)) → plain_rows (map (updated_row t.columns sets conditions) rows) ≡ plain_rows (map (updated_row t.columns sets conditions) (plain_rows rows))
    made [] = refl
    made (r ∷ rs) = ap (λ k. k ∷ plain_rows (map (updated_row t.columns sets conditions) rs)) (one (satisfies t.columns conditions r) r) ∙ ap (λ k. plain_row (updated_row t.columns sets conditions (plain_row r)) ∷ k) (made rs)

-- **a statement makes the same of the same tables**
pub plain-after : (ts us : List (Name × Table)) (user : User) (s : Statement) → plain_tables ts ≡ plain_tables us → plain_tables (tables_after ts user s) ≡ plain_tables (tables_after us user s)
plain-after ts us user (statements.CreateTable table columns) e =
    let fresh : List (Name × Table) = (table, empty_table user columns) ∷ [] in
    map-append (λ t. (t.0, unnumbered t.1)) ts fresh
    ∙ ap (λ k. k ++ plain_tables fresh) e
    ∙ sym (map-append (λ t. (t.0, unnumbered t.1)) us fresh)
plain-after ts us user (statements.Insert table values) e = change-both table (with_row (record { values = values })) ts us (insert-blind (record { values = values })) e
plain-after ts us user (statements.Delete table filter) e = change-both table (without_chosen_rows filter) ts us (delete-blind filter) e
plain-after ts us user (statements.Update table sets filter) e = change-both table (with_updated_rows sets filter) ts us (update-blind sets filter) e
plain-after ts us user _ e = e

-- The verdict by rights that agree with a journal's on its tables is the verdict by the journal's.
use Rattle.std.proofs.Common.{◌≡◌, ℕ, ◌||◌, ◌&&◌, Bool, true, false, List, [], ◌∷◌, Option, Some, None, length, map, refl, sym, ap, ◌∙◌}
use Rattle.std.specs.List.{AllByRecursion, list_any}
use Rattle.base_core.specs.Users.{same_user}
use Rattle.base_core.specs.declared.name.Name.{Name}
use Rattle.base_core.specs.declared.name.User.{User}
use Rattle.base_core.specs.declared.value.Column.{Column}
use Rattle.base_core.specs.declared.privilege.Kind.{Kind}
use Rattle.base_core.specs.declared.privilege.Kind.TheVariants as kinds
use Rattle.base_core.specs.declared.privilege.Atom.{Atom}
use Rattle.base_core.specs.declared.lack.Lack.TheVariants as lacks
use Rattle.base_core.specs.declared.limits.Limits.{Limits}
use Rattle.base_core.specs.declared.condition.Assignment.{Assignment}
use Rattle.base_core.specs.declared.condition.Condition.{Condition}
use Rattle.reader_core.specs.declared.privilege.Privilege.{Privilege}
use Rattle.reader_core.specs.declared.privilege.Privilege.TheVariants as privileges
use Rattle.reader_core.specs.declared.statement.Statement.{Statement}
use Rattle.reader_core.specs.declared.statement.Statement.TheVariants as statements
use Rattle.tables_core.specs.Contents.{Table}
use Rattle.grants_core.specs.declared.grant.Ownership.{Ownership}
use Rattle.grants_core.specs.Owners.{owner_of, owns}
use Rattle.grants_core.specs.Content.{Rights, gives}
use Rattle.grants_core.proofs.OwnersLemmas.{AllByRecursion-append}
use Rattle.base_core.specs.Privileges.{of_table, to_select, to_update}
use Rattle.monitor_core.specs.Atoms.{columns_given, atoms_of_one, atoms_of}
use Rattle.monitor_core.specs.Verdict.{State, Check, verdict, first_lack, each, require, is_table, columns_of, atoms_at, list_stands, holds_privilege, holds_grant_option, column_stands, column_takes, count_is_right, types_are_right, may_filter, room_for_change, room_for_grants, listed_columns_stand}
use Rattle.system_core.specs.Standing.{AgreeOn, KeepsJournal}
use Rattle.system_core.specs.Journal.{tables_at, rights_at, verdict_at}
use Rattle.system_core.specs.declared.machine.event.Entry.{Entry}
use Rattle.monitor_core.proofs.Passing.{guarded, each-alike}

-- ---- the atoms of privileges on a table are of that table
all_map : {A : Type 0} (table : Name) (f : A → Atom) (xs : List A) → ((x : A) → (f x).table ≡ table) → AllByRecursion (λ a. a.table ≡ table) (map f xs)
all_map table f [] h = tt
all_map table f (x ∷ xs) h = (h x, all_map table f xs h)

of_one : (table : Name) (columns : List Column) (p : Privilege) → AllByRecursion (λ a. a.table ≡ table) (atoms_of_one table columns p)
of_one table columns (privileges.Select list) = all_map table (to_select table) (columns_given columns list) (λ n. refl)
of_one table columns privileges.Insert = (refl, tt)
of_one table columns privileges.Delete = (refl, tt)
of_one table columns (privileges.Update list) = all_map table (to_update table) (columns_given columns list) (λ n. refl)

pub atoms-table : (table : Name) (columns : List Column) (ps : List Privilege) → AllByRecursion (λ a. a.table ≡ table) (atoms_of table columns ps)
atoms-table table columns [] = tt
atoms-table table columns (p ∷ ps) = AllByRecursion-append (λ a. a.table ≡ table) (atoms_of_one table columns p) (atoms_of table columns ps) (of_one table columns p) (atoms-table table columns ps)

pub All-atoms : (P Q : Atom → Type 0) (atoms : List Atom) → ((a : Atom) → P a → Q a) → AllByRecursion P atoms → AllByRecursion Q atoms
All-atoms P Q [] f h = tt
All-atoms P Q (a ∷ more) f h = (f a h.0, All-atoms P Q more f h.1)

-- ---- owners who own alike
pub owns-alike : (os ps : List Ownership) (user : User) (atom : Atom) → owner_of os atom.table ≡ owner_of ps atom.table → owns os user atom ≡ owns ps user atom
unfolding owns
owns-alike os ps user atom h = ap (λ (o : Option User). elim o as (λ _. Bool) [ Some p ↦ same_user p user | None ↦ false ]) h

-- what is judged by, with these owners
abbrev by_owners : List (Name × Table) → Limits → ℕ → Rights → List Ownership → State
by_owners ts l m c os = record { tables = ts; rights = record c { owners = os }; limits = l; moment = m }

module _ (ts : List (Name × Table)) (l : Limits) (m : ℕ) (c : Rights) (os ps : List Ownership) (user : User) where
  holds-alike : (atom : Atom) → owner_of os atom.table ≡ owner_of ps atom.table → holds_privilege (by_owners ts l m c os) user atom ≡ holds_privilege (by_owners ts l m c ps) user atom
  holds-alike atom h = ap (λ b. require (b || list_any (gives user atom) c.in_force) (lacks.NoPrivilege user atom)) (owns-alike os ps user atom h)

  may_grant-alike : (atom : Atom) → owner_of os atom.table ≡ owner_of ps atom.table → holds_grant_option (by_owners ts l m c os) user atom ≡ holds_grant_option (by_owners ts l m c ps) user atom
  may_grant-alike atom h = ap (λ b. require (b || list_any (λ g. g.option && gives user atom g) c.in_force) (lacks.NoGrantOption user atom)) (owns-alike os ps user atom h)

  kinds-alike : {A : Type 0} (kind : A → Kind) (table : Name) (xs : List A) → owner_of os table ≡ owner_of ps table → each xs (λ x. holds_privilege (by_owners ts l m c os) user (of_table table (kind x))) ≡ each xs (λ x. holds_privilege (by_owners ts l m c ps) user (of_table table (kind x)))
  kinds-alike {A = A} kind table xs h = each-alike (λ (x : A). holds_privilege (by_owners ts l m c os) user (of_table table (kind x))) (λ x. holds_privilege (by_owners ts l m c ps) user (of_table table (kind x))) xs (all xs)
    where
      all : (xs : List A) → AllByRecursion (λ x. holds_privilege (by_owners ts l m c os) user (of_table table (kind x)) ≡ holds_privilege (by_owners ts l m c ps) user (of_table table (kind x))) xs
      all [] = tt
      all (x ∷ more) = (holds-alike (of_table table (kind x)) h, all more)

  filter-alike : (table : Name) (filter : List Condition) → owner_of os table ≡ owner_of ps table → may_filter (by_owners ts l m c os) user table filter ≡ may_filter (by_owners ts l m c ps) user table filter
  filter-alike table filter h = kinds-alike (λ (q : Condition). kinds.Select q.column) table filter h

  -- only the owners of tables that stand count
  verdict-owners : (s : Statement) → ((name : Name) → is_table ts name ≡ true → owner_of os name ≡ owner_of ps name) → verdict (by_owners ts l m c os) user s ≡ verdict (by_owners ts l m c ps) user s
  verdict-owners (statements.Insert table values) h =
      guarded (is_table ts table) (lacks.NoTable table) _ _ (λ stands.
      ap (λ x. first_lack (x ∷ count_is_right (by_owners ts l m c ps) table values ∷ types_are_right (by_owners ts l m c ps) table values ∷ room_for_change (by_owners ts l m c ps) ∷ [])) (holds-alike (of_table table kinds.Insert) (h table stands)))
  verdict-owners (statements.Select list table filter) h =
      let two : Check → Check → Check = λ x y. first_lack (list_stands (by_owners ts l m c ps) table list ∷ each filter (λ q. column_stands (by_owners ts l m c ps) table q.column) ∷ x ∷ y ∷ each filter (λ q. column_takes (by_owners ts l m c ps) table q.column q.literal) ∷ []) in
      guarded (is_table ts table) (lacks.NoTable table) _ _ (λ stands.
      ap (λ x. two x (may_filter (by_owners ts l m c os) user table filter)) (kinds-alike kinds.Select table (columns_given (columns_of ts table) list) (h table stands))
      ∙ ap (two (each (columns_given (columns_of ts table) list) (λ column. holds_privilege (by_owners ts l m c ps) user (to_select table column)))) (filter-alike table filter (h table stands)))
  verdict-owners (statements.Delete table filter) h =
      let two : Check → Check → Check = λ x y. first_lack (each filter (λ q. column_stands (by_owners ts l m c ps) table q.column) ∷ x ∷ y ∷ each filter (λ q. column_takes (by_owners ts l m c ps) table q.column q.literal) ∷ room_for_change (by_owners ts l m c ps) ∷ []) in
      guarded (is_table ts table) (lacks.NoTable table) _ _ (λ stands.
      ap (λ x. two x (may_filter (by_owners ts l m c os) user table filter)) (holds-alike (of_table table kinds.Delete) (h table stands))
      ∙ ap (two (holds_privilege (by_owners ts l m c ps) user (of_table table kinds.Delete))) (filter-alike table filter (h table stands)))
  verdict-owners (statements.Update table sets filter) h =
      let two : Check → Check → Check = λ x y. first_lack (each sets (λ a. column_stands (by_owners ts l m c ps) table a.column) ∷ each filter (λ q. column_stands (by_owners ts l m c ps) table q.column) ∷ x ∷ y ∷ each sets (λ a. column_takes (by_owners ts l m c ps) table a.column a.value) ∷ each filter (λ q. column_takes (by_owners ts l m c ps) table q.column q.literal) ∷ room_for_change (by_owners ts l m c ps) ∷ []) in
      guarded (is_table ts table) (lacks.NoTable table) _ _ (λ stands.
      ap (λ x. two x (may_filter (by_owners ts l m c os) user table filter)) (kinds-alike (λ (a : Assignment). kinds.Update a.column) table sets (h table stands))
      ∙ ap (two (each sets (λ a. holds_privilege (by_owners ts l m c ps) user (to_update table a.column)))) (filter-alike table filter (h table stands)))
  verdict-owners (statements.Grant asked table users option) h =
      guarded (is_table ts table) (lacks.NoTable table) _ _ (λ stands.
      ap (λ x. first_lack (listed_columns_stand (by_owners ts l m c ps) table asked ∷ x ∷ room_for_change (by_owners ts l m c ps) ∷ each (atoms_at ts table asked) (room_for_grants (by_owners ts l m c ps) users) ∷ []))
      (each-alike (holds_grant_option (by_owners ts l m c os) user) (holds_grant_option (by_owners ts l m c ps) user) (atoms_at ts table asked)
      (All-atoms (λ a. a.table ≡ table) (λ a. holds_grant_option (by_owners ts l m c os) user a ≡ holds_grant_option (by_owners ts l m c ps) user a) (atoms_at ts table asked)
      (λ a of_this. may_grant-alike a (ap (owner_of os) of_this ∙ (h table stands ∙ ap (owner_of ps) (sym of_this))))
      (atoms-table table (columns_of ts table) asked))))
  verdict-owners (statements.Export number None) h = refl
  verdict-owners (statements.Export number (Some table)) h = refl
  verdict-owners _ h = refl

-- **the verdict by rights that agree on the tables is the same**
pub verdict-agree : (ts : List (Name × Table)) (l : Limits) (m : ℕ) (c d : Rights) (user : User) (s : Statement) → AgreeOn ts c d → verdict (record { tables = ts; rights = c; limits = l; moment = m }) user s ≡ verdict (record { tables = ts; rights = d; limits = l; moment = m }) user s
verdict-agree ts l m c d user s h =
    verdict-owners ts l m c c.owners d.owners user s h.owned
    ∙ (ap (λ f. verdict (record { tables = ts; rights = record { owners = d.owners; in_force = f; made = c.made }; limits = l; moment = m }) user s) h.in_force
    ∙ ap (λ n. verdict (record { tables = ts; rights = record { owners = d.owners; in_force = d.in_force; made = n }; limits = l; moment = m }) user s) h.made)

-- **the verdict by what a system keeps is that of its journal**
pub verdict-stands : (limits : Limits) (journal : List Entry) (tables : List (Name × Table)) (rights : Rights) (user : User) (s : Statement) → KeepsJournal limits journal tables rights → verdict (record { tables = tables; rights = rights; limits = limits; moment = length journal }) user s ≡ verdict_at limits journal user s
verdict-stands limits journal tables rights user s h =
    ap (λ ts. verdict (record { tables = ts; rights = rights; limits = limits; moment = length journal }) user s) h.tables_of
    ∙ verdict-agree (tables_at journal) limits (length journal) rights (rights_at journal) user s h.agree

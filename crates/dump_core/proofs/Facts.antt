-- What is known of each lawful journal: its grants are in turn and of columns that stand, and its tables are few.
use Rattle.std.proofs.Common.{◌≡◌, ℕ, ◌+◌, ◌<◌, ◌≤◌, Bool, true, false, not, ◌||◌, cond, subst, suc, List, [], ◌∷◌, ◌++◌, map, length, Option, Some, None, Ok, sym, ap, ◌∙◌, append_assoc, append-nil, arith}
use Rattle.std.specs.Prelude.{slice_get, option_and_then, is_some}
use Rattle.std.specs.List.{AllByRecursion, list_any, position_or_len}
use Rattle.std.proofs.lemmas.Bool.{cond-true, lt-ltb, ltb-true, or_left, or_right}
use Rattle.std.proofs.lemmas.List.{length-append, length-map}
use Rattle.std.proofs.lemmas.List.Elements.{All-from_recursion}
use Rattle.std.proofs.lemmas.Option.{slice_get-get_or}
use Rattle.base_core.specs.Words.{same_name}
use Rattle.base_core.specs.Filter.{column_index}
use Rattle.base_core.specs.Privileges.{to_select, to_update}
use Rattle.base_core.specs.declared.name.Name.{Name}
use Rattle.base_core.specs.declared.name.User.{User}
use Rattle.base_core.specs.declared.limits.Limits.{Limits}
use Rattle.base_core.specs.declared.value.Column.{Column}
use Rattle.base_core.specs.declared.value.Moment.{Moment}
use Rattle.base_core.specs.declared.privilege.Atom.{Atom}
use Rattle.base_core.proofs.SameLemmas.{same_name-refl}
use Rattle.reader_core.specs.declared.privilege.Privilege.{Privilege}
use Rattle.reader_core.specs.declared.privilege.Privilege.TheVariants as privileges
use Rattle.reader_core.specs.declared.statement.Statement.{Statement}
use Rattle.reader_core.specs.declared.statement.Statement.TheVariants as statements
use Rattle.tables_core.specs.Contents.{Table, with_change, with_row, without_chosen_rows, with_updated_rows}
use Rattle.tables_core.proofs.ContentsLemmas.{names-with_change}
use Rattle.grants_core.specs.declared.grant.Grant.{Grant}
use Rattle.grants_core.specs.declared.grant.Change.{Change}
use Rattle.grants_core.specs.declared.grant.Change.TheVariants as change
use Rattle.grants_core.specs.Valid.{valid}
use Rattle.grants_core.specs.Content as rights_of
use Rattle.grants_core.specs.Content.{Rights, names, without, option_off, options_off, singles, after_grant}
use Rattle.grants_core.specs.History.{grants_of, granted, content_after, owners_after, in_force_after, left_after}
use Rattle.grants_core.proofs.ValidLemmas.{valid-part}
use Rattle.grants_core.proofs.GrantLemmas.{All-implied, All-valid}
use Rattle.grants_core.proofs.OptionLemmas.{All-options_off}
use Rattle.grants_core.proofs.OwnersLemmas.{AllByRecursion-append, singles-all}
use Rattle.grants_core.proofs.HistoryLemmas.{content-create, content-grant, content-revoke, content-revoke_option, content-other, left-early}
use Rattle.monitor_core.specs.Atoms.{columns_listed, columns_given, atoms_of_one, atoms_of}
use Rattle.monitor_core.specs.Verdict.{State, checks, verdict, each, column_stands, holds_grant_option, is_table, columns_of, atoms_at}
use Rattle.monitor_core.proofs.Passing.{require-Ok, passed, each-Ok}
use Rattle.monitor_core.proofs.Columns.{column_of_columns}
use Rattle.system_core.specs.declared.machine.event.Entry.{Entry}
use Rattle.system_core.specs.Journal.{tables_at, tables_after, change_of, changes, rights_at, state_of, verdict_at, IsLawfulFrom, IsLawful}
use Rattle.system_core.specs.Carrying.{rights_after}
use Rattle.system_core.proofs.TableLemmas.{IsNew, is_table-after, columns-after}
use Rattle.system_core.proofs.Agreeing.{atoms-table, All-atoms}
use Rattle.system_core.proofs.Growing.{On, OnTables, changes-more, length-changes, never_granted, granted_on}
use Rattle.system_core.proofs.Keeping.{new, contents-more, lawful-more}
use Rattle.dump_core.specs.Dump.{privilege_of}
use Rattle.dump_core.proofs.InTurn.{AreInTurn, added-in_turn, options-in_turn, part-in_turn, part-all, part-filter}

-- ---- entry by entry
module _ (l : Limits) (Q : Entry → Type 0) (P : List Entry → Type 0) (step : (j : List Entry) (e : Entry) → IsLawful l j → P j → Q e → verdict_at l j e.user e.statement ≡ Ok tt → P (j ++ e ∷ [])) where
  from : (before es : List Entry) → IsLawful l before → P before → AllByRecursion Q es → IsLawfulFrom l before es → P (before ++ es)
  from before [] lawful h q more = subst P (sym (append-nil before)) h
  from before (e ∷ es) lawful h q more =
      subst P (append_assoc before (e ∷ []) es)
      (from (before ++ e ∷ []) es (lawful-more l [] before e lawful more.1 more.0) (step before e lawful h q.0 more.1) q.1 more.2)

  -- what holds of no entries, and of one more where it held before, holds of a lawful journal of such entries
  pub by_entries : (journal : List Entry) → P [] → AllByRecursion Q journal → IsLawful l journal → P journal
  by_entries journal h q lawful = from [] journal tt h q lawful

-- ---- what an allowed change makes of the rights
-- an allowed grant is of atoms of a table
on_tables : (at : State) (user : User) (s : Statement) → verdict at user s ≡ Ok tt → OnTables at.tables (change_of at.tables user s)
on_tables at user (statements.Grant asked table users option) ok =
    let here : is_table at.tables table ≡ true = require-Ok _ _ (passed (checks at user (statements.Grant asked table users option)) ok).0 in
    All-atoms (λ a. a.table ≡ table) (λ a. is_table at.tables a.table ≡ true) (atoms_at at.tables table asked) (λ a of_this. ap (is_table at.tables) of_this ∙ here) (atoms-table table (columns_of at.tables table) asked)
on_tables at user _ ok = tt

-- whoever grants may grant each of the atoms
may : (at : State) (user : User) (asked : List Privilege) (table : Name) (users : List User) (option : Bool) → verdict at user (statements.Grant asked table users option) ≡ Ok tt
    → AllByRecursion (λ atom. rights_of.may_grant at.rights.owners at.rights.in_force user atom ≡ true) (atoms_at at.tables table asked)
may at user asked table users option ok =
    All-atoms (λ atom. holds_grant_option at user atom ≡ Ok tt) (λ atom. rights_of.may_grant at.rights.owners at.rights.in_force user atom ≡ true) (atoms_at at.tables table asked) (λ a h. require-Ok _ _ h)
    (each-Ok (holds_grant_option at user) (atoms_at at.tables table asked) (passed (checks at user (statements.Grant asked table users option)) ok).1.1.0)

module _ (l : Limits) (journal : List Entry) (user : User) where
  made : (s : Statement) → On (tables_at journal) (granted (changes journal)) → verdict_at l journal user s ≡ Ok tt
      → content_after (changes journal ++ change_of (tables_at journal) user s ∷ []) ≡ rights_after (rights_at journal) (length journal) (change_of (tables_at journal) user s)
  made (statements.CreateTable table columns) on ok =
      content-create (changes journal) table user (never_granted (tables_at journal) table (granted (changes journal)) on (ap is_some (new (state_of l journal) user (statements.CreateTable table columns) ok)))
  made (statements.Grant asked table users option) on ok =
      let at : State = state_of l journal in
      let atoms : List Atom = atoms_at (tables_at journal) table asked in
      let May : Atom → Type 0 = λ atom. rights_of.may_grant at.rights.owners at.rights.in_force user atom ≡ true in
      let count : 1 + length (changes journal) ≡ length journal + 1 = omega (arith, length-changes journal) in
      content-grant (changes journal) user atoms users option (All-from_recursion May atoms (may at user asked table users option ok))
      ∙ ap (λ m. after_grant (rights_at journal) user atoms users option (record { 0 = m })) count
  made (statements.Revoke asked table users) on ok = content-revoke (changes journal) user (atoms_at (tables_at journal) table asked) users
  made (statements.RevokeOption asked table users) on ok = content-revoke_option (changes journal) user (atoms_at (tables_at journal) table asked) users
  made _ on ok = content-other (changes journal)

  pub rights-more : (s : Statement) → On (tables_at journal) (granted (changes journal)) → verdict_at l journal user s ≡ Ok tt → (p : ℕ)
      → rights_at (journal ++ record { pass = p; user = user; statement = s } ∷ []) ≡ rights_after (rights_at journal) (length journal) (change_of (tables_at journal) user s)
  rights-more s on ok p = ap content_after (changes-more journal (record { pass = p; user = user; statement = s })) ∙ made s on ok

-- all in force are earlier
early : (journal : List Entry) → AllByRecursion (λ g. g.moment.0 < length journal + 1) (rights_at journal).in_force
early journal =
    let cs : List Change = changes journal in
    All-implied (λ g. g.moment.0 < 1 + length cs) (λ g. g.moment.0 < length journal + 1) (in_force_after cs) (λ g lt. omega (arith, lt, length-changes journal))
    (All-valid (λ g. g.moment.0 < 1 + length cs) (owners_after cs) (left_after cs) (left-early cs))

-- ---- what holds of all grants in force, after a change
pub all-after : (P : Grant → Type 0) (c : Rights) (m : ℕ) (ch : Change) → ((test : Grant → Bool) (g : Grant) → P g → P (option_off test g)) → AllByRecursion P c.in_force → AllByRecursion P (grants_of c.made (m + 1) ch) → AllByRecursion P (rights_after c m ch).in_force
all-after P c m (change.Create table owner) off h fresh = h
all-after P c m (change.Grant by atoms whom option) off h fresh = AllByRecursion-append P c.in_force (singles c.made (record { 0 = m + 1 }) by atoms whom option) h fresh
all-after P c m (change.Revoke by atoms whom) off h fresh =
    let left : List Grant = without by atoms whom c.in_force in
    part-all P (valid c.owners left) left (valid-part c.owners left) (part-all P left c.in_force (part-filter _ c.in_force) h)
all-after P c m (change.RevokeOption by atoms whom) off h fresh =
    let left : List Grant = options_off by atoms whom c.in_force in
    part-all P (valid c.owners left) left (valid-part c.owners left) (All-options_off P (names by atoms whom) c.in_force (off (names by atoms whom)) h)
all-after P c m change.Other off h fresh = h

all_units : {A : Type 0} (xs : List A) → AllByRecursion (λ _. Unit {0}) xs
all_units [] = tt
all_units (x ∷ xs) = (tt, all_units xs)

turn-after : (c : Rights) (m : ℕ) (ch : Change) → AreInTurn c.in_force → AllByRecursion (λ g. g.moment.0 < m + 1) c.in_force → AreInTurn (rights_after c m ch).in_force
turn-after c m (change.Create table owner) t e = t
turn-after c m (change.Grant by atoms whom option) t e =
    let at : Moment = record { 0 = m + 1 } in
    added-in_turn c.in_force (singles c.made at by atoms whom option) at by t e
    (singles-all (λ g. (g.moment ≡ at) × (g.grantor ≡ by)) (λ _. Unit {0}) c.made at by atoms whom option (λ g q by_user now. (now, by_user)) (all_units atoms))
turn-after c m (change.Revoke by atoms whom) t e =
    let left : List Grant = without by atoms whom c.in_force in
    part-in_turn (valid c.owners left) left (valid-part c.owners left) (part-in_turn left c.in_force (part-filter _ c.in_force) t)
turn-after c m (change.RevokeOption by atoms whom) t e =
    let left : List Grant = options_off by atoms whom c.in_force in
    part-in_turn (valid c.owners left) left (valid-part c.owners left) (options-in_turn (names by atoms whom) c.in_force t)
turn-after c m change.Other t e = t

-- ---- columns
-- the column of this name, if there is one
abbrev pub found : List Column → Name → Option Column
found columns name = option_and_then (slice_get columns) (column_index columns name)

below-cases : (b more : Bool) (at n : ℕ) → (more ≡ true → at < n) → (b || more) ≡ true → cond (not b) (1 + at) 0 < suc n
below-cases true more at n rest h = omega arith
below-cases false more at n rest h = let lt = rest h in omega (arith, lt)

below : (p : Column → Bool) (xs : List Column) → list_any p xs ≡ true → position_or_len p xs < length xs
below p [] h = cc
below p (x ∷ xs) h = below-cases (p x) (list_any p xs) (position_or_len p xs) (length xs) (below p xs) h

found-some : (columns : List Column) (name : Name) → list_any (λ c. same_name c.name name) columns ≡ true → is_some (found columns name) ≡ true
found-some [] name h = h
found-some (x ∷ xs) name h =
    let p : Column → Bool = λ c. same_name c.name name in
    let lt = below p (x ∷ xs) h in
    ap (λ o. is_some (option_and_then (slice_get (x ∷ xs)) o)) (cond-true _ (Some (position_or_len p (x ∷ xs))) None (lt-ltb _ _ lt))
    ∙ ap is_some (slice_get-get_or (x ∷ xs) (position_or_len p (x ∷ xs)) x lt)

-- the columns that an atom names, of which there is one at most, are the table's
pub record AtomStands (tables : List (Name × Table)) (a : Atom) : Type 0 where
  pub table : is_table tables a.table ≡ true
  pub columns : AllByRecursion (λ name. is_some (found (columns_of tables a.table) name) ≡ true) (columns_listed (privilege_of a.kind))

own : (all columns : List Column) → ((name : Name) → list_any (λ c. same_name c.name name) columns ≡ true → list_any (λ c. same_name c.name name) all ≡ true) → AllByRecursion (λ name. is_some (found all name) ≡ true) (map (λ c. c.name) columns)
own all [] f = tt
own all (c ∷ cs) f = (found-some all c.name (f c.name (or_left _ _ (same_name-refl c.name))), own all cs (λ name h. f name (or_right _ _ h)))

given : (columns : List Column) (list : Option (List Name)) → AllByRecursion (λ name. is_some (found columns name) ≡ true) (columns_listed (privileges.Select list)) → AllByRecursion (λ name. is_some (found columns name) ≡ true) (columns_given columns list)
given columns None h = own columns columns (λ name k. k)
given columns (Some names) h = h

module _ (tables : List (Name × Table)) (table : Name) (here : is_table tables table ≡ true) where
  named : (f : Name → Atom) → ((name : Name) → is_some (found (columns_of tables table) name) ≡ true → AtomStands tables (f name)) → (list : List Name) → AllByRecursion (λ name. is_some (found (columns_of tables table) name) ≡ true) list → AllByRecursion (AtomStands tables) (map f list)
  named f g [] h = tt
  named f g (name ∷ list) h = (g name h.0, named f g list h.1)

  one : (p : Privilege) → AllByRecursion (λ name. is_some (found (columns_of tables table) name) ≡ true) (columns_listed p) → AllByRecursion (AtomStands tables) (atoms_of_one table (columns_of tables table) p)
  one (privileges.Select list) h = named (to_select table) (λ name s. record { table = here; columns = (s, tt) }) (columns_given (columns_of tables table) list) (given (columns_of tables table) list h)
  one privileges.Insert h = (record { table = here; columns = tt }, tt)
  one privileges.Delete h = (record { table = here; columns = tt }, tt)
  one (privileges.Update list) h = named (to_update table) (λ name s. record { table = here; columns = (s, tt) }) (columns_given (columns_of tables table) list) (given (columns_of tables table) list h)

  many : (ps : List Privilege) → AllByRecursion (λ p. AllByRecursion (λ name. is_some (found (columns_of tables table) name) ≡ true) (columns_listed p)) ps → AllByRecursion (AtomStands tables) (atoms_of table (columns_of tables table) ps)
  many [] h = tt
  many (p ∷ ps) h = AllByRecursion-append (AtomStands tables) (atoms_of_one table (columns_of tables table) p) (atoms_of table (columns_of tables table) ps) (one p h.0) (many ps h.1)

listed : (at : State) (table : Name) (names : List Name) → AllByRecursion (λ name. column_stands at table name ≡ Ok tt) names → AllByRecursion (λ name. is_some (found (columns_of at.tables table) name) ≡ true) names
listed at table [] h = tt
listed at table (name ∷ names) h = (ap is_some (sym (column_of_columns at.tables table name)) ∙ require-Ok _ _ h.0, listed at table names h.1)

all_listed : (at : State) (table : Name) (ps : List Privilege) → AllByRecursion (λ p. each (columns_listed p) (column_stands at table) ≡ Ok tt) ps → AllByRecursion (λ p. AllByRecursion (λ name. is_some (found (columns_of at.tables table) name) ≡ true) (columns_listed p)) ps
all_listed at table [] h = tt
all_listed at table (p ∷ ps) h = (listed at table (columns_listed p) (each-Ok (column_stands at table) (columns_listed p) h.0), all_listed at table ps h.1)

-- an allowed grant is of atoms that stand
new-stand : (at : State) (n m : ℕ) (user : User) (s : Statement) → verdict at user s ≡ Ok tt → AllByRecursion (λ g. AtomStands at.tables g.atom) (grants_of n m (change_of at.tables user s))
new-stand at n m user (statements.Grant asked table users option) ok =
    let parts = passed (checks at user (statements.Grant asked table users option)) ok in
    let here : is_table at.tables table ≡ true = require-Ok _ _ parts.0 in
    singles-all (λ g. AtomStands at.tables g.atom) (AtomStands at.tables) n (record { 0 = m }) user (atoms_at at.tables table asked) users option (λ g stands by_user now. stands)
    (many at.tables table here asked (all_listed at table asked (each-Ok (λ p. each (columns_listed p) (column_stands at table)) asked parts.1.0)))
new-stand at n m user _ ok = tt

-- and they stand from then on
still : (tables : List (Name × Table)) (user : User) (s : Statement) → IsNew tables s → (a : Atom) → AtomStands tables a → AtomStands (tables_after tables user s) a
still tables user s fresh a h = record {
  table = is_table-after tables user s a.table fresh h.table;
  columns =
      let Here : List Column → Type 0 = λ columns. AllByRecursion (λ name. is_some (found columns name) ≡ true) (columns_listed (privilege_of a.kind)) in
      subst Here (sym (columns-after tables user s a.table fresh h.table)) h.columns;
}

-- ---- tables are few
length-with_change : (table : Name) (f : Table → Table) (tables : List (Name × Table)) → length (with_change table f tables) ≡ length tables
length-with_change table f tables = sym (length-map (with_change table f tables) (λ e. e.0)) ∙ ap length (names-with_change tables table f) ∙ length-map tables (λ e. e.0)

few-after : (at : State) (user : User) (s : Statement) → verdict at user s ≡ Ok tt → length at.tables ≤ at.limits.tables → length (tables_after at.tables user s) ≤ at.limits.tables
few-after at user (statements.CreateTable table columns) ok h =
    let room = ltb-true (length at.tables) at.limits.tables (require-Ok _ _ (passed (checks at user (statements.CreateTable table columns)) ok).1.1.0) in
    let long = length-append at.tables ((table, record { owner = user; columns = columns; inserted = 0; rows = [] }) ∷ []) in
    omega (arith, room, long)
few-after at user (statements.Insert table values) ok h = let same = length-with_change table (with_row (record { values = values })) at.tables in omega (arith, h, same)
few-after at user (statements.Delete table filter) ok h = let same = length-with_change table (without_chosen_rows filter) at.tables in omega (arith, h, same)
few-after at user (statements.Update table sets filter) ok h = let same = length-with_change table (with_updated_rows sets filter) at.tables in omega (arith, h, same)
few-after at user _ ok h = h

-- ---- all together
pub record IsKnown (l : Limits) (journal : List Entry) : Type 0 where
  pub on : On (tables_at journal) (granted (changes journal))
  pub turn : AreInTurn (rights_at journal).in_force
  pub stand : AllByRecursion (λ g. AtomStands (tables_at journal) g.atom) (rights_at journal).in_force
  pub few : length (tables_at journal) ≤ l.tables

pub known-more : (l : Limits) (journal : List Entry) (e : Entry) → IsKnown l journal → verdict_at l journal e.user e.statement ≡ Ok tt → IsKnown l (journal ++ e ∷ [])
known-more l journal e h ok =
    let at : State = state_of l journal in
    let ts : List (Name × Table) = tables_at journal in
    let after : List (Name × Table) = tables_after ts e.user e.statement in
    let ch : Change = change_of ts e.user e.statement in
    let c : Rights = rights_at journal in
    let m : ℕ = length journal in
    let fresh = new at e.user e.statement ok in
    let tables : tables_at (journal ++ e ∷ []) ≡ after = contents-more journal e in
    let rights : rights_at (journal ++ e ∷ []) ≡ rights_after c m ch = rights-more l journal e.user e.statement h.on ok e.pass in
    let OnAll : List (Name × Table) → List Change → Type 0 = λ k cs. On k (granted cs) in
    let Turn : Rights → Type 0 = λ k. AreInTurn k.in_force in
    let StandAll : List (Name × Table) → Rights → Type 0 = λ k d. AllByRecursion (λ g. AtomStands k g.atom) d.in_force in
    let Few : List (Name × Table) → Type 0 = λ k. length k ≤ l.tables in
    record {
      on = subst (λ k. OnAll k (changes (journal ++ e ∷ []))) (sym tables) (subst (λ cs. OnAll after cs) (sym (changes-more journal e))
          (granted_on ts after (changes journal) ch h.on (on_tables at e.user e.statement ok) (λ name here. is_table-after ts e.user e.statement name fresh here)));
      turn = subst Turn (sym rights) (turn-after c m ch h.turn (early journal));
      stand = subst (λ k. StandAll k (rights_at (journal ++ e ∷ []))) (sym tables) (subst (λ d. StandAll after d) (sym rights)
          (all-after (λ g. AtomStands after g.atom) c m ch (λ test g stands. stands)
          (All-implied (λ g. AtomStands ts g.atom) (λ g. AtomStands after g.atom) c.in_force (λ g. still ts e.user e.statement fresh g.atom) h.stand)
          (All-implied (λ g. AtomStands ts g.atom) (λ g. AtomStands after g.atom) (grants_of c.made (m + 1) ch) (λ g. still ts e.user e.statement fresh g.atom) (new-stand at c.made (m + 1) e.user e.statement ok))));
      few = subst Few (sym tables) (few-after at e.user e.statement ok h.few);
    }

-- **all this is known of a lawful journal**
pub known : (l : Limits) (journal : List Entry) → IsLawful l journal → IsKnown l journal
known l journal lawful = by_entries l (λ _. Unit {0}) (IsKnown l) (λ j e was h q ok. known-more l j e h ok) journal (record { on = tt; turn = tt; stand = tt; few = omega arith }) (all_units journal) lawful

-- An allowed change may be carried out, and the system stands as before after it.
use Rattle.std.proofs.Common.{◌≡◌, ◌+◌, ◌*◌, ◌<◌, ◌≤◌, ◌^◌, Bool, true, false, subst, List, [], ◌∷◌, ◌++◌, Ok, Option, Some, None, IsSome, IsSomeAnd, length, refl, sym, ap, ◌∙◌, arith, append_assoc, ⊎_elim}
use Rattle.std.specs.List.{All}
use Rattle.std.specs.Option.{option_map_or, is_some}
use Rattle.std.proofs.lemmas.Bool.{ltb-true, false_from_ne_true, both_ways}
use Rattle.std.proofs.lemmas.List.{append-nil, length-append}
use Rattle.std.proofs.lemmas.List.Sums.{fold-append}
use Rattle.std.proofs.lemmas.List.Elements.{All-from_recursion}
use Rattle.base_core.specs.Words.{same_name}
use Rattle.base_core.specs.declared.name.Name.{Name}
use Rattle.base_core.specs.declared.name.User.{User}
use Rattle.base_core.specs.declared.condition.Condition.{Condition}
use Rattle.base_core.specs.declared.limits.Limits.{Limits}
use Rattle.base_core.specs.declared.privilege.Atom.{Atom}
use Rattle.base_core.specs.declared.value.Column.{Column}
use Rattle.reader_core.specs.declared.privilege.Privilege.{Privilege}
use Rattle.reader_core.specs.declared.statement.Statement.{Statement}
use Rattle.reader_core.specs.declared.statement.Statement.TheVariants as statements
use Rattle.tables_core.specs.Contents.{Table, table_of}
use Rattle.tables_core.specs.Fitting.{ValuesFit, AssignmentsFit}
use Rattle.grants_core.specs.declared.grant.Grant.{Grant}
use Rattle.grants_core.specs.declared.grant.Change.{Change}
use Rattle.grants_core.specs.Owners.{with_owner}
use Rattle.grants_core.specs.Content as rights_of
use Rattle.grants_core.specs.Content.{Rights, after_grant}
use Rattle.grants_core.specs.History.{content_after, owners_after, in_force_after, unstruck_after, left_after, is_unoptioned, granted}
use Rattle.base_core.proofs.SameLemmas.{same_name-true}
use Rattle.grants_core.proofs.OwnersLemmas.{was_granted-with_owner, owner_of-with_owner}
use Rattle.grants_core.proofs.GrantLemmas.{All-filtered, All-implied, All-valid}
use Rattle.grants_core.proofs.HistoryLemmas.{content-create, content-grant, content-revoke, content-revoke_option, content-other, left-early}
use Rattle.grants_core.proofs.OptionLemmas.{All-options_off}
use Rattle.capture_core.specs.Image.{row_total}
use Rattle.system_core.specs.declared.machine.event.Entry.{Entry}
use Rattle.monitor_core.specs.Verdict.{State, checks, verdict, table_stands, room_for_change, holds_grant_option, is_table, columns_of, atoms_at, is_change}
use Rattle.system_core.specs.Journal.{tables_at, tables_with, tables_after, change_of, changes, rights_at, state_of, verdict_at, IsLawfulFrom}
use Rattle.system_core.specs.Carrying.{CanCarry, HasFewColumns, MayLeave, rights_after, most_grants}
use Rattle.system_core.specs.Standing.{KeepsJournal, AgreeOn, inserted_of}
use Rattle.monitor_core.proofs.Passing.{require-Ok, passed, not-some, some_is, each-Ok}
use Rattle.system_core.proofs.Fitting.{ValuesFit-allowed, AssignmentsFit-allowed}
use Rattle.system_core.proofs.TableLemmas.{IsNew, is_table-after, is_table-old, narrow-after, inserted-after}
use Rattle.system_core.proofs.Counting.{row_total-after}
use Rattle.system_core.proofs.Agreeing.{atoms-table, All-atoms, verdict-agree}
use Rattle.system_core.proofs.Growing.{On, OnTables, Grows, creates, changes-more, length-changes, never_granted, agree-after, granted_on}

-- ---- what an allowed change needs is there
stands : (at : State) (table : Name) → table_stands at table ≡ Ok tt → (t : Table) × (table_of at.tables table ≡ Some t)
stands at table h = some_is (table_of at.tables table) (require-Ok _ _ h)

there : (at : State) (table : Name) → table_stands at table ≡ Ok tt → IsSome (table_of at.tables table)
there at table h =
    let P : Option Table → Type 0 = λ o. IsSome o in
    subst P (sym (stands at table h).1) refl

-- an allowed creation is of a new table
pub new : (at : State) (user : User) (s : Statement) → verdict at user s ≡ Ok tt → IsNew at.tables s
new at user (statements.CreateTable table columns) ok = not-some (table_of at.tables table) (require-Ok _ _ (passed (checks at user (statements.CreateTable table columns)) ok).0)
new at user _ ok = tt

-- an allowed grant is of atoms of a table
pub on_tables : (at : State) (user : User) (s : Statement) → verdict at user s ≡ Ok tt → OnTables at.tables (change_of at.tables user s)
on_tables at user (statements.Grant privileges table users option) ok =
    let here : is_table at.tables table ≡ true = require-Ok _ _ (passed (checks at user (statements.Grant privileges table users option)) ok).0 in
    All-atoms (λ a. a.table ≡ table) (λ a. is_table at.tables a.table ≡ true) (atoms_at at.tables table privileges) (λ a of_this. ap (is_table at.tables) of_this ∙ here) (atoms-table table (columns_of at.tables table) privileges)
on_tables at user _ ok = tt

-- whoever grants may grant each of the atoms
pub may : (at : State) (user : User) (privileges : List Privilege) (table : Name) (users : List User) (option : Bool) → verdict at user (statements.Grant privileges table users option) ≡ Ok tt
    → All (λ atom. rights_of.may_grant at.rights.owners at.rights.in_force user atom ≡ true) (atoms_at at.tables table privileges)
may at user privileges table users option ok =
    let May : Atom → Type 0 = λ atom. rights_of.may_grant at.rights.owners at.rights.in_force user atom ≡ true in
    let each_passed = each-Ok (holds_grant_option at user) (atoms_at at.tables table privileges) (passed (checks at user (statements.Grant privileges table users option)) ok).1.1.0 in
    All-from_recursion May (atoms_at at.tables table privileges) (All-atoms (λ atom. holds_grant_option at user atom ≡ Ok tt) May (atoms_at at.tables table privileges) (λ a h. require-Ok _ _ h) each_passed)

-- what is in force was granted, and earlier than now
in_force_on : (tables : List (Name × Table)) (cs : List Change) → On tables (granted cs) → On tables (in_force_after cs)
in_force_on tables cs h =
    let Here : Grant → Type 0 = λ g. is_table tables g.atom.table ≡ true in
    All-valid Here (owners_after cs) (left_after cs)
    (All-options_off Here (is_unoptioned cs) (unstruck_after cs) (λ g here. here) (All-filtered Here _ (granted cs) h))

early : (journal : List Entry) → All (λ g. g.moment.0 < length journal + 1) (in_force_after (changes journal))
early journal =
    let cs : List Change = changes journal in
    All-from_recursion (λ g. g.moment.0 < length journal + 1) (in_force_after cs)
    (All-implied (λ g. g.moment.0 < 1 + length cs) (λ g. g.moment.0 < length journal + 1) (in_force_after cs) (λ g lt. omega (arith, lt, length-changes journal))
    (All-valid (λ g. g.moment.0 < 1 + length cs) (owners_after cs) (left_after cs) (left-early cs)))

module _ (limits : Limits) (journal : List Entry) (tables : List (Name × Table)) (rights : Rights) (h : KeepsJournal limits journal tables rights) where
  can : (user : User) (s : Statement) → is_change s ≡ true → verdict_at limits journal user s ≡ Ok tt → CanCarry (tables_at journal) rights (length journal) user s
  can user (statements.CreateTable table columns) change ok =
      let none : table_of (tables_at journal) table ≡ None = new (state_of limits journal) user (statements.CreateTable table columns) ok in
      (none, h.agree.fresh table (ap is_some none))
  can user (statements.Insert table values) change ok =
      let here = stands (state_of limits journal) table (passed (checks (state_of limits journal) user (statements.Insert table values)) ok).0 in
      let bound : here.0.inserted ≤ length journal = subst (λ (o : Option Table). option_map_or (λ t. t.inserted) o 0 ≤ length journal) here.1 (h.sound.inserted table) in
      let Few : Option Table → Type 0 = λ o. IsSomeAnd o (λ t. t.inserted < 2 ^ 63) in
      let Fit : Option Table → Type 0 = λ o. IsSomeAnd o (λ t. ValuesFit t.columns values) in
      let small : here.0.inserted < 2 ^ 63 = omega (arith, bound, h.sound.few, limits.changes_within) in
      (subst Few (sym here.1) small, subst Fit (sym here.1) (ValuesFit-allowed (state_of limits journal) user table here.0 here.1 values ok))
  can user (statements.Delete table filter) change ok = there (state_of limits journal) table (passed (checks (state_of limits journal) user (statements.Delete table filter)) ok).0
  can user (statements.Update table sets filter) change ok =
      let here = stands (state_of limits journal) table (passed (checks (state_of limits journal) user (statements.Update table sets filter)) ok).0 in
      let Fit : Option Table → Type 0 = λ o. IsSomeAnd o (λ t. AssignmentsFit t.columns sets) in
      subst Fit (sym here.1) (AssignmentsFit-allowed (state_of limits journal) user table here.0 here.1 sets filter ok)
  can user (statements.Grant privileges table users option) change ok =
      let at : State = record { tables = tables_at journal; rights = rights; limits = limits; moment = length journal } in
      let here : verdict at user (statements.Grant privileges table users option) ≡ Ok tt = verdict-agree (tables_at journal) limits (length journal) rights (rights_at journal) user (statements.Grant privileges table users option) h.agree ∙ ok in
      let Later : List Grant → Type 0 = λ gs. All (λ g. g.moment.0 < length journal + 1) gs in (
        record {
          may = may at user privileges table users option here;
          later = subst Later (sym h.agree.in_force) (early journal);
          numbers = omega (arith, h.agree.made, h.sound.made_few, h.sound.few, limits.changes_within);
        },
        h.sound.narrow table,
      )
  can user (statements.Revoke privileges table users) change ok = h.sound.narrow table
  can user (statements.RevokeOption privileges table users) change ok = h.sound.narrow table
  can user _ change ok = cc

  pub CanCarry-stands : (user : User) (s : Statement) → is_change s ≡ true → verdict_at limits journal user s ≡ Ok tt → CanCarry tables rights (length journal) user s
  CanCarry-stands user s change ok =
      let P : List (Name × Table) → Type 0 = λ ts. CanCarry ts rights (length journal) user s in
      subst P (sym h.tables_of) (can user s change ok)

  -- the table of an allowed query is there
  pub CanSelect-stands : (user : User) (list : Option (List Name)) (table : Name) (filter : List Condition) → verdict_at limits journal user (statements.Select list table filter) ≡ Ok tt → IsSome (table_of tables table)
  CanSelect-stands user list table filter ok =
      let P : List (Name × Table) → Type 0 = λ ts. IsSome (table_of ts table) in
      subst P (sym h.tables_of) (there (state_of limits journal) table (passed (checks (state_of limits journal) user (statements.Select list table filter)) ok).0)

-- a table has another name than what is no table
other_name : (tables : List (Name × Table)) (name other : Name) → is_table tables name ≡ true → is_table tables other ≡ false → same_name other name ≡ false
other_name tables name other here none = false_from_ne_true _ (λ same.
    let P : Name → Type 0 = λ n. is_table tables n ≡ true in
    both_ways _ none (subst P (sym (same_name-true other name same)) here))

-- ---- one more entry
pub contents-more : (journal : List Entry) (e : Entry) → tables_at (journal ++ e ∷ []) ≡ tables_with (tables_at journal) e
contents-more journal e = fold-append tables_with [] journal (e ∷ [])

pub lawful-more : (l : Limits) (before es : List Entry) (e : Entry) → IsLawfulFrom l before es → verdict_at l (before ++ es) e.user e.statement ≡ Ok tt → is_change e.statement ≡ true → IsLawfulFrom l before (es ++ e ∷ [])
lawful-more l before [] e h ok change =
    let P : List Entry → Type 0 = λ k. verdict_at l k e.user e.statement ≡ Ok tt in
    (change, subst P (append-nil before) ok, tt)
lawful-more l before (x ∷ es) e h ok change =
    let P : List Entry → Type 0 = λ k. verdict_at l k e.user e.statement ≡ Ok tt in
    (h.0, h.1, lawful-more l (before ++ x ∷ []) es e h.2 (subst P (sym (append_assoc before (x ∷ []) es)) ok) change)

-- where a change is allowed, there is room for it
in_room : (at : State) → room_for_change at ≡ Ok tt → at.moment < at.limits.changes
in_room at h = ltb-true at.moment at.limits.changes (require-Ok _ _ h)

pub room : (at : State) (user : User) (s : Statement) → is_change s ≡ true → verdict at user s ≡ Ok tt → at.moment < at.limits.changes
room at user (statements.CreateTable table columns) c ok = in_room at (passed (checks at user (statements.CreateTable table columns)) ok).1.0
room at user (statements.Insert table values) c ok = in_room at (passed (checks at user (statements.Insert table values)) ok).1.1.1.1.0
room at user (statements.Delete table filter) c ok = in_room at (passed (checks at user (statements.Delete table filter)) ok).1.1.1.1.1.0
room at user (statements.Update table sets filter) c ok = in_room at (passed (checks at user (statements.Update table sets filter)) ok).1.1.1.1.1.1.1.0
room at user (statements.Grant privileges table users option) c ok = in_room at (passed (checks at user (statements.Grant privileges table users option)) ok).1.1.1.0
room at user (statements.Revoke privileges table users) c ok = in_room at (passed (checks at user (statements.Revoke privileges table users)) ok).1.1.1.0
room at user (statements.RevokeOption privileges table users) c ok = in_room at (passed (checks at user (statements.RevokeOption privileges table users)) ok).1.1.1.0
room at user _ c ok = cc

-- what an allowed change makes of the tables' names
creates-table : (tables : List (Name × Table)) (user : User) (s : Statement) (name : Name) → creates (change_of tables user s) name ≡ false → (table : Name) (columns : List Column) → s ≡ statements.CreateTable table columns → same_name table name ≡ false
creates-table tables user s name other table columns is =
    let P : Statement → Type 0 = λ k. creates (change_of tables user k) name ≡ false in
    subst P is other

grows : (at : State) (user : User) (s : Statement) → verdict at user s ≡ Ok tt → Grows at.tables (tables_after at.tables user s) (change_of at.tables user s)
grows at user s ok = record {
  stays = λ name here. is_table-after at.tables user s name (new at user s ok) here;
  old = λ name other here. is_table-old at.tables user s name (creates-table at.tables user s name other) (new at user s ok) here;
}

-- the rights at a journal with one more entry
rights-more : (limits : Limits) (journal : List Entry) (user : User) (s : Statement) → On (tables_at journal) (granted (changes journal)) → verdict_at limits journal user s ≡ Ok tt
    → content_after (changes journal ++ change_of (tables_at journal) user s ∷ []) ≡ rights_after (rights_at journal) (length journal) (change_of (tables_at journal) user s)
rights-more limits journal user (statements.CreateTable table columns) on ok =
    content-create (changes journal) table user (never_granted (tables_at journal) table (granted (changes journal)) on (ap is_some (new (state_of limits journal) user (statements.CreateTable table columns) ok)))
rights-more limits journal user (statements.Grant privileges table users option) on ok =
    let at : State = state_of limits journal in
    let count : 1 + length (changes journal) ≡ length journal + 1 = omega (arith, length-changes journal) in
    content-grant (changes journal) user (atoms_at (tables_at journal) table privileges) users option (may at user privileges table users option ok)
    ∙ ap (λ m. after_grant (rights_at journal) user (atoms_at (tables_at journal) table privileges) users option (record { 0 = m })) count
rights-more limits journal user (statements.Revoke privileges table users) on ok = content-revoke (changes journal) user (atoms_at (tables_at journal) table privileges) users
rights-more limits journal user (statements.RevokeOption privileges table users) on ok = content-revoke_option (changes journal) user (atoms_at (tables_at journal) table privileges) users
rights-more limits journal user _ on ok = content-other (changes journal)

module _ (limits : Limits) (journal : List Entry) (tables : List (Name × Table)) (rights : Rights) (h : KeepsJournal limits journal tables rights) where
  -- the system stands with the change entered
  pub Stands-more : (new_tables : List (Name × Table)) (new_rights : Rights) (e : Entry) → verdict_at limits journal e.user e.statement ≡ Ok tt → is_change e.statement ≡ true
      → new_tables ≡ tables_after tables e.user e.statement → new_rights ≡ rights_after rights (length journal) (change_of tables e.user e.statement) → HasFewColumns e.statement → new_rights.made ≤ rights.made + most_grants
      → KeepsJournal limits (journal ++ e ∷ []) new_tables new_rights
  Stands-more new_tables new_rights e ok change tables_is rights_is narrow few =
      let at : State = state_of limits journal in
      let ts : List (Name × Table) = tables_at journal in
      let after : List (Name × Table) = tables_after ts e.user e.statement in
      let ch : Change = change_of ts e.user e.statement in
      let is_new = new at e.user e.statement ok in
      let grown = grows at e.user e.statement ok in
      let on = on_tables at e.user e.statement ok in
      let long : length (journal ++ e ∷ []) ≡ length journal + 1 = length-append journal (e ∷ []) in
      let fits = room at e.user e.statement change ok in
      let later : tables_at (journal ++ e ∷ []) ≡ after = contents-more journal e in
      let rights_later : rights_at (journal ++ e ∷ []) ≡ rights_after (rights_at journal) (length journal) ch = ap content_after (changes-more journal e) ∙ rights-more limits journal e.user e.statement h.sound.on_tables ok in
      let rights_new : new_rights ≡ rights_after rights (length journal) ch = rights_is ∙ ap (λ k. rights_after rights (length journal) (change_of k e.user e.statement)) h.tables_of in
      let agree : AgreeOn after (rights_after rights (length journal) ch) (rights_after (rights_at journal) (length journal) ch) =
      agree-after ts after rights (rights_at journal) (length journal) ch h.agree (in_force_on ts (changes journal) h.sound.on_tables) on grown in
      let By : List (Name × Table) → Rights → Rights → Type 0 = λ k c d. AgreeOn k c d in
      let agree_later : AgreeOn (tables_at (journal ++ e ∷ [])) new_rights (rights_at (journal ++ e ∷ [])) =
      subst (λ k. By k new_rights (rights_at (journal ++ e ∷ []))) (sym later) (subst (λ d. By after new_rights d) (sym rights_later) (subst (λ c. By after c (rights_after (rights_at journal) (length journal) ch)) (sym rights_new) agree)) in
      let Granted : List Change → Type 0 = λ cs. On (tables_at (journal ++ e ∷ [])) (granted cs) in
      let OnAfter : List (Name × Table) → Type 0 = λ k. On k (granted (changes journal ++ ch ∷ [])) in
      let on_later : On (tables_at (journal ++ e ∷ [])) (granted (changes (journal ++ e ∷ []))) =
      subst Granted (sym (changes-more journal e)) (subst OnAfter (sym later) (granted_on ts after (changes journal) ch h.sound.on_tables on grown.stays)) in
      let made_few : (rights_at (journal ++ e ∷ [])).made ≤ most_grants * length (journal ++ e ∷ []) = omega (arith, agree_later.made, few, h.agree.made, h.sound.made_few, long) in
      record {
        sound = record {
          lawful = lawful-more limits [] journal e h.sound.lawful ok change;
          few = omega (arith, long, fits);
          inserted = λ name. subst (λ (k : List (Name × Table)). inserted_of k name ≤ length (journal ++ e ∷ [])) (sym later) (omega (arith, long, inserted-after ts e.user e.statement (length journal) name is_new (h.sound.inserted name)));
          narrow = λ name. subst (λ (k : List (Name × Table)). length (columns_of k name) ≤ 32) (sym later) (narrow-after ts e.user e.statement name is_new narrow (h.sound.narrow name));
          on_tables = on_later;
          made_few = made_few;
          rows_few = subst (λ (k : List (Name × Table)). row_total k ≤ length (journal ++ e ∷ [])) (sym later) (omega (arith, long, row_total-after ts e.user e.statement, h.sound.rows_few));
        };
        tables_of = tables_is ∙ (ap (λ k. tables_after k e.user e.statement) h.tables_of ∙ sym later);
        agree = agree_later;
      }

  as_before : (new_rights : Rights) → new_rights ≡ rights → AgreeOn (tables_at journal) new_rights (rights_at journal)
  as_before new_rights same = let P : Rights → Type 0 = λ c. AgreeOn (tables_at journal) c (rights_at journal) in subst P (sym same) h.agree

  -- the owner of a name that is no table is read by no verdict
  owner_left : (table : Name) (user : User) → is_table (tables_at journal) table ≡ false → AgreeOn (tables_at journal) (record rights { owners = with_owner table user rights.owners }) (rights_at journal)
  owner_left table user none = record {
    in_force = h.agree.in_force;
    made = h.agree.made;
    owned = λ name here. owner_of-with_owner table user rights.owners name (other_name (tables_at journal) name table here none) ∙ h.agree.owned name here;
    fresh = λ name no_name. was_granted-with_owner table user rights.owners name ∙ h.agree.fresh name no_name;
  }

  -- what a change that found no memory may leave of the rights agrees as before
  leaves : (user : User) (s : Statement) (new_rights : Rights) → verdict_at limits journal user s ≡ Ok tt → MayLeave rights (change_of (tables_at journal) user s) new_rights → AgreeOn (tables_at journal) new_rights (rights_at journal)
  leaves user (statements.CreateTable table columns) new_rights ok left =
      let P : Rights → Type 0 = λ c. AgreeOn (tables_at journal) c (rights_at journal) in
      let none : is_table (tables_at journal) table ≡ false = ap is_some (new (state_of limits journal) user (statements.CreateTable table columns) ok) in
      ⊎_elim
      (λ (same : new_rights ≡ rights). subst P (sym same) h.agree)
      (λ (owner : new_rights ≡ record rights { owners = with_owner table user rights.owners }). subst P (sym owner) (owner_left table user none))
      left
  leaves user _ new_rights ok left = as_before new_rights left

  -- **after want of memory the system stands with the same journal**
  pub Stands-left : (new_tables : List (Name × Table)) (new_rights : Rights) (e : Entry) → verdict_at limits journal e.user e.statement ≡ Ok tt → new_tables ≡ tables → MayLeave rights (change_of tables e.user e.statement) new_rights → KeepsJournal limits journal new_tables new_rights
  Stands-left new_tables new_rights e ok same left =
      let P : List (Name × Table) → Type 0 = λ ts. MayLeave rights (change_of ts e.user e.statement) new_rights in
      record { sound = h.sound; tables_of = same ∙ h.tables_of; agree = leaves e.user e.statement new_rights ok (subst P h.tables_of left) }

-- What one more change makes of rights that agree, and of a journal's changes.
use Rattle.std.proofs.Common.{◌≡◌, ℕ, ◌+◌, ◌*◌, ◌||◌, ◌&&◌, Bool, true, false, subst, List, [], ◌∷◌, ◌++◌, Some, length, refl, sym, ap, ◌∙◌, arith, ⊎_elim}
use Rattle.std.specs.List.{AllByRecursion, list_any, fold}
use Rattle.std.proofs.lemmas.Bool.{cases_Bool, cond-true, cond-false, false_from_ne_true, both_ways, or_from, or_left, or_right, and_parts}
use Rattle.base_core.specs.Words.{same_name}
use Rattle.base_core.specs.declared.name.Name.{Name}
use Rattle.base_core.specs.declared.name.User.{User}
use Rattle.base_core.specs.declared.privilege.Atom.{Atom}
use Rattle.tables_core.specs.Contents.{Table}
use Rattle.grants_core.specs.declared.grant.Grant.{Grant}
use Rattle.grants_core.specs.declared.grant.Ownership.{Ownership}
use Rattle.grants_core.specs.declared.grant.Change.{Change}
use Rattle.grants_core.specs.declared.grant.Change.TheVariants as change
use Rattle.grants_core.specs.Owners.{owner_of, was_granted, with_owner, with_granted}
use Rattle.grants_core.specs.Valid.{valid}
use Rattle.grants_core.specs.Content.{Rights, without, names, options_off, singles}
use Rattle.grants_core.specs.History.{made_by_all, granted, grants_of}
use Rattle.base_core.proofs.SameLemmas.{same_name-true, same_name-refl}
use Rattle.grants_core.proofs.OwnersLemmas.{was_granted-with_owner, owner_of-with_owner, owner_of-cons, owner_of-noted, valid-owners, singles-all, AllByRecursion-append}
use Rattle.grants_core.proofs.GrantLemmas.{All-filtered, All-implied}
use Rattle.grants_core.proofs.OptionLemmas.{All-options_off}
use Rattle.grants_core.proofs.HistoryLemmas.{granted_from-append}
use Rattle.system_core.specs.declared.machine.event.Entry.{Entry}
use Rattle.monitor_core.specs.Verdict.{is_table}
use Rattle.system_core.specs.Journal.{tables_with, tables_at, change_of, changes_from, changes}
use Rattle.system_core.specs.Carrying.{rights_after}
use Rattle.system_core.specs.Standing.{AgreeOn}
use Rattle.system_core.proofs.Agreeing.{owns-alike, All-atoms}

-- ---- the changes of one more entry
from-more : (tables : List (Name × Table)) (es : List Entry) (e : Entry) → changes_from tables (es ++ e ∷ []) ≡ changes_from tables es ++ change_of (fold tables_with tables es) e.user e.statement ∷ []
from-more tables [] e = refl
from-more tables (x ∷ es) e = ap (λ k. change_of tables x.user x.statement ∷ k) (from-more (tables_with tables x) es e)

pub changes-more : (journal : List Entry) (e : Entry) → changes (journal ++ e ∷ []) ≡ changes journal ++ change_of (tables_at journal) e.user e.statement ∷ []
changes-more journal e = from-more [] journal e

from-length : (tables : List (Name × Table)) (es : List Entry) → length (changes_from tables es) ≡ length es
from-length tables [] = refl
from-length tables (e ∷ es) = let rest = from-length (tables_with tables e) es in omega (arith, rest)

pub length-changes : (journal : List Entry) → length (changes journal) ≡ length journal
length-changes journal = from-length [] journal

-- ---- names and marks
abbrev pub On : List (Name × Table) → List Grant → Type 0
On tables grants = AllByRecursion (λ g. is_table tables g.atom.table ≡ true) grants

-- whether the change makes a table of this name
abbrev pub creates : Change → Name → Bool
creates (change.Create table owner) name = same_name table name
creates (change.Grant by atoms whom option) name = false
creates (change.Revoke by atoms whom) name = false
creates (change.RevokeOption by atoms whom) name = false
creates change.Other name = false

-- the atoms of a grant are of tables
abbrev pub OnTables : List (Name × Table) → Change → Type 0
OnTables tables (change.Create table owner) = Unit {0}
OnTables tables (change.Grant by atoms whom option) = AllByRecursion (λ a. is_table tables a.table ≡ true) atoms
OnTables tables (change.Revoke by atoms whom) = Unit {0}
OnTables tables (change.RevokeOption by atoms whom) = Unit {0}
OnTables tables change.Other = Unit {0}

-- tables stay, and none is new but for the one that the change creates
pub record Grows (tables after : List (Name × Table)) (c : Change) : Type 0 where
  pub stays : (name : Name) → is_table tables name ≡ true → is_table after name ≡ true
  pub old : (name : Name) → creates c name ≡ false → is_table after name ≡ true → is_table tables name ≡ true

no_table : (tables : List (Name × Table)) (name other : Name) → is_table tables name ≡ true → is_table tables other ≡ false → same_name name other ≡ false
no_table tables name other stands none = false_from_ne_true _ (λ same.
    let P : Name → Type 0 = λ n. is_table tables n ≡ true in
    both_ways _ none (subst P (same_name-true name other same) stands))

-- no grant is on a name that is no table
pub never_granted : (tables : List (Name × Table)) (table : Name) (grants : List Grant) → On tables grants → is_table tables table ≡ false → list_any (λ g. same_name table g.atom.table) grants ≡ false
never_granted tables table [] h none = refl
never_granted tables table (g ∷ gs) h none =
    or_from _ _ (false_from_ne_true _ (λ same.
    let P : Name → Type 0 = λ n. is_table tables n ≡ true in
    both_ways _ none (subst P (sym (same_name-true table g.atom.table same)) h.0)))
    (never_granted tables table gs h.1 none)

-- atoms of tables mean no other name
meant_other : (tables : List (Name × Table)) (atoms : List Atom) (name : Name) → AllByRecursion (λ a. is_table tables a.table ≡ true) atoms → is_table tables name ≡ false → list_any (λ (a : Atom). same_name a.table name) atoms ≡ false
meant_other tables [] name h none = refl
meant_other tables (a ∷ more) name h none = or_from _ _ (no_table tables a.table name h.0 none) (meant_other tables more name h.1 none)

-- grants mark no name that they don't mean
marked_other : (atoms : List Atom) (os : List Ownership) (name : Name) → list_any (λ (a : Atom). same_name a.table name) atoms ≡ false → was_granted os name ≡ false → was_granted (with_granted atoms os) name ≡ false
marked_other atoms [] name other h = refl
marked_other atoms (o ∷ os) name other h =
    let meant : Name → Bool = λ n. list_any (λ (a : Atom). same_name a.table n) atoms in
    let rest : Bool = was_granted (with_granted atoms os) name in
    let os_false : was_granted os name ≡ false = false_from_ne_true _ (λ g. both_ways _ h (or_right (o.granted && same_name o.table name) _ g)) in
    ⊎_elim
    (λ (here : same_name o.table name ≡ true).
    let not_meant : meant o.table ≡ false = ap meant (same_name-true o.table name here) ∙ other in
    let unmarked : o.granted ≡ false = false_from_ne_true _ (λ g. both_ways _ h (or_left _ _ (ap (λ b. b && same_name o.table name) g ∙ here))) in
    ap (λ b. ((b || meant o.table) && same_name o.table name) || rest) unmarked ∙ ap (λ b. (b && same_name o.table name) || rest) not_meant ∙ marked_other atoms os name other os_false)
    (λ (there : same_name o.table name ≡ false).
    let none : ((o.granted || meant o.table) && same_name o.table name) ≡ false = false_from_ne_true _ (λ both. both_ways _ there (and_parts (o.granted || meant o.table) _ both).1) in
    ap (λ b. b || rest) none ∙ marked_other atoms os name other os_false)
    (cases_Bool (same_name o.table name))

pub owner_of-new : (table : Name) (user : User) (os : List Ownership) → owner_of (with_owner table user os) table ≡ Some user
owner_of-new table user [] = owner_of-cons (record { table = table; owner = user; granted = false }) [] table ∙ cond-true (same_name table table) _ _ (same_name-refl table)
owner_of-new table user (o ∷ os) =
    ⊎_elim
    (λ (here : same_name o.table table ≡ true).
    ap (λ k. owner_of k table) (cond-true (same_name o.table table) (record o { owner = user } ∷ os) (o ∷ with_owner table user os) here)
    ∙ owner_of-cons (record o { owner = user }) os table ∙ cond-true (same_name o.table table) _ _ here)
    (λ (there : same_name o.table table ≡ false).
    ap (λ k. owner_of k table) (cond-false (same_name o.table table) (record o { owner = user } ∷ os) (o ∷ with_owner table user os) there)
    ∙ owner_of-cons o (with_owner table user os) table ∙ cond-false (same_name o.table table) _ _ there ∙ owner_of-new table user os)
    (cases_Bool (same_name o.table table))

-- ---- rights that agree before a change agree after it
before : (tables after : List (Name × Table)) (c : Change) → Grows tables after c → (name : Name) → is_table after name ≡ false → is_table tables name ≡ false
before tables after c grows name none = false_from_ne_true _ (λ stands. both_ways _ none (grows.stays name stands))

pub agree-after : (tables after : List (Name × Table)) (c d : Rights) (m : ℕ) (ch : Change) → AgreeOn tables c d → On tables d.in_force → OnTables tables ch → Grows tables after ch → AgreeOn after (rights_after c m ch) (rights_after d m ch)
agree-after tables after c d m (change.Create table owner) h on ot grows = record {
  in_force = h.in_force;
  made = h.made;
  owned = λ name stands. ⊎_elim
      (λ (same : same_name table name ≡ true).
      let P : Name → Type 0 = λ n. owner_of (with_owner table owner c.owners) n ≡ owner_of (with_owner table owner d.owners) n in
      subst P (same_name-true table name same) (owner_of-new table owner c.owners ∙ sym (owner_of-new table owner d.owners)))
      (λ (other : same_name table name ≡ false).
      owner_of-with_owner table owner c.owners name other ∙ (h.owned name (grows.old name other stands) ∙ sym (owner_of-with_owner table owner d.owners name other)))
      (cases_Bool (same_name table name));
  fresh = λ name none. was_granted-with_owner table owner c.owners name ∙ h.fresh name (before tables after (change.Create table owner) grows name none);
}
agree-after tables after c d m (change.Grant by atoms whom option) h on ot grows = record {
  in_force = ap (λ f. f ++ singles c.made (record { 0 = m + 1 }) by atoms whom option) h.in_force ∙ ap (λ n. d.in_force ++ singles n (record { 0 = m + 1 }) by atoms whom option) h.made;
  made = ap (λ k. k + length atoms * length whom) h.made;
  owned = λ name stands. owner_of-noted atoms c.owners name ∙ (h.owned name (grows.old name refl stands) ∙ sym (owner_of-noted atoms d.owners name));
  fresh = λ name none.
      let none_before = before tables after (change.Grant by atoms whom option) grows name none in
      marked_other atoms c.owners name (meant_other tables atoms name ot none_before) (h.fresh name none_before);
}
agree-after tables after c d m (change.Revoke by atoms whom) h on ot grows = record {
  in_force = ap (λ k. valid c.owners (without by atoms whom k)) h.in_force
      ∙ valid-owners d.owners c.owners (without by atoms whom d.in_force)
      (All-implied (λ g. is_table tables g.atom.table ≡ true) _ (without by atoms whom d.in_force)
      (λ g stands. owns-alike c.owners d.owners g.grantor g.atom (h.owned g.atom.table stands))
      (All-filtered (λ g. is_table tables g.atom.table ≡ true) _ d.in_force on));
  made = h.made;
  owned = λ name stands. h.owned name (grows.old name refl stands);
  fresh = λ name none. h.fresh name (before tables after (change.Revoke by atoms whom) grows name none);
}
agree-after tables after c d m (change.RevokeOption by atoms whom) h on ot grows =
    let Here : Grant → Type 0 = λ g. is_table tables g.atom.table ≡ true in
    let left : List Grant = options_off by atoms whom d.in_force in
    record {
      in_force = ap (λ k. valid c.owners (options_off by atoms whom k)) h.in_force
          ∙ valid-owners d.owners c.owners left
          (All-implied Here _ left
          (λ g stands. owns-alike c.owners d.owners g.grantor g.atom (h.owned g.atom.table stands))
          (All-options_off Here (names by atoms whom) d.in_force (λ g here. here) on));
      made = h.made;
      owned = λ name stands. h.owned name (grows.old name refl stands);
      fresh = λ name none. h.fresh name (before tables after (change.RevokeOption by atoms whom) grows name none);
    }
agree-after tables after c d m change.Other h on ot grows = record {
  in_force = h.in_force;
  made = h.made;
  owned = λ name stands. h.owned name (grows.old name refl stands);
  fresh = λ name none. h.fresh name (before tables after change.Other grows name none);
}

-- ---- every grant that was made is on a table
on_after : (tables after : List (Name × Table)) (grants : List Grant) → ((name : Name) → is_table tables name ≡ true → is_table after name ≡ true) → On tables grants → On after grants
on_after tables after grants stays h = All-implied (λ g. is_table tables g.atom.table ≡ true) (λ g. is_table after g.atom.table ≡ true) grants (λ g. stays g.atom.table) h

new_on : (tables : List (Name × Table)) (n m : ℕ) (c : Change) → OnTables tables c → On tables (grants_of n m c)
new_on tables n m (change.Create table owner) ot = tt
new_on tables n m (change.Grant by atoms whom option) ot = singles-all (λ g. is_table tables g.atom.table ≡ true) (λ a. is_table tables a.table ≡ true) n (record { 0 = m }) by atoms whom option (λ g q by_user made. q) ot
new_on tables n m (change.Revoke by atoms whom) ot = tt
new_on tables n m (change.RevokeOption by atoms whom) ot = tt
new_on tables n m change.Other ot = tt

stay_on : (tables after : List (Name × Table)) (c : Change) → ((name : Name) → is_table tables name ≡ true → is_table after name ≡ true) → OnTables tables c → OnTables after c
stay_on tables after (change.Create table owner) stays ot = tt
stay_on tables after (change.Grant by atoms whom option) stays ot = All-atoms (λ a. is_table tables a.table ≡ true) (λ a. is_table after a.table ≡ true) atoms (λ a. stays a.table) ot
stay_on tables after (change.Revoke by atoms whom) stays ot = tt
stay_on tables after (change.RevokeOption by atoms whom) stays ot = tt
stay_on tables after change.Other stays ot = tt

pub granted_on : (tables after : List (Name × Table)) (cs : List Change) (c : Change) → On tables (granted cs) → OnTables tables c → ((name : Name) → is_table tables name ≡ true → is_table after name ≡ true) → On after (granted (cs ++ c ∷ []))
granted_on tables after cs c h ot stays =
    let Here : List Grant → Type 0 = λ gs. On after gs in
    let new : List Grant = grants_of (0 + made_by_all cs) (1 + length cs) c in
    subst Here (sym (granted_from-append 0 1 cs (c ∷ [])))
    (AllByRecursion-append (λ g. is_table after g.atom.table ≡ true) (granted cs) (new ++ []) (on_after tables after (granted cs) stays h)
    (AllByRecursion-append (λ g. is_table after g.atom.table ≡ true) new [] (new_on after (0 + made_by_all cs) (1 + length cs) c (stay_on tables after c stays ot)) tt))

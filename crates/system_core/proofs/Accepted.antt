-- The changes of a lawful journal are as an authority accepts them.
use Rattle.std.proofs.Common.{◌≡◌, ◌⊎◌, inl, inr, true, false, List, [], ◌∷◌, ◌++◌, Option, Some, None, Ok, All, refl, sym, ap, subst, ◌∙◌, append-nil, append_assoc, ⊎_elim}
use Rattle.std.specs.Option.{is_some, option_map}
use Rattle.base_core.specs.declared.name.Name.{Name}
use Rattle.base_core.specs.declared.name.User.{User}
use Rattle.base_core.specs.declared.privilege.Atom.{Atom}
use Rattle.base_core.specs.declared.limits.Limits.{Limits}
use Rattle.reader_core.specs.declared.statement.Statement.{Statement}
use Rattle.reader_core.specs.declared.statement.Statement.TheVariants as statements
use Rattle.tables_core.specs.Contents.{Table, table_of}
use Rattle.grants_core.specs.declared.grant.Change.{Change}
use Rattle.grants_core.specs.declared.grant.Change.TheVariants as change
use Rattle.grants_core.specs.Owners.{owner_of}
use Rattle.grants_core.specs.History.{granted, owners_after, is_granted}
use Rattle.grants_core.specs.Noted.{may_grant_after}
use Rattle.grants_core.specs.Lawful.{AreLawful}
use Rattle.monitor_core.specs.Verdict.{atoms_at}
use Rattle.system_core.specs.declared.machine.event.Entry.{Entry}
use Rattle.system_core.specs.Journal.{tables_at, tables_with, change_of, changes, state_of, verdict_at, IsLawfulFrom, IsLawful}
use Rattle.system_core.proofs.TableLemmas.{is_table-after}
use Rattle.system_core.proofs.Growing.{On, changes-more, never_granted, granted_on}
use Rattle.system_core.proofs.Keeping.{new, on_tables, may, contents-more, lawful-more}
use Rattle.system_core.proofs.Owning.{owners-whole}

-- what is split off a list is its last, or stands before that
split_last : {A : Type 0} (cs : List A) (c x : A) (before after : List A) → cs ++ c ∷ [] ≡ before ++ x ∷ after
    → ((before ≡ cs) × (x ≡ c)) ⊎ ((rest : List A) × (cs ≡ before ++ x ∷ rest))
split_last [] c x [] after e = inl (refl, cc)
split_last [] c x (b ∷ []) after e = cc
split_last [] c x (b ∷ d ∷ bs) after e = cc
split_last (d ∷ ds) c x [] after e = let same : d ≡ x = cc in inr (ds, ap (λ k. k ∷ ds) same)
split_last (d ∷ ds) c x (b ∷ bs) after e =
    let first : d ≡ b = cc in
    let rest : ds ++ c ∷ [] ≡ bs ++ x ∷ after = cc in
    ⊎_elim
    (λ (h : (bs ≡ ds) × (x ≡ c)). inl (ap (λ k. b ∷ k) h.0 ∙ ap (λ k. k ∷ ds) (sym first), h.1))
    (λ (h : (more : List _) × (ds ≡ bs ++ x ∷ more)). inr (h.0, ap (λ k. d ∷ k) h.1 ∙ ap (λ k. k ∷ bs ++ x ∷ h.0) first))
    (split_last ds c x bs after rest)

some_same : {A : Type 0} (a b : A) → Some a ≡ Some b → a ≡ b
some_same a b e = cc

none_some : {A : Type 0} (b : A) → None ≡ Some b → ⊥
none_some b e = cc

-- the table that a change creates, and what one grants by whom
abbrev created_by : Change → Option Name
created_by (change.Create table owner) = Some table
created_by (change.Grant by atoms whom option) = None
created_by (change.Revoke by atoms whom) = None
created_by (change.RevokeOption by atoms whom) = None
created_by change.Other = None

abbrev granted_by : Change → Option (User × List Atom)
granted_by (change.Create table owner) = None
granted_by (change.Grant by atoms whom option) = Some (by, atoms)
granted_by (change.Revoke by atoms whom) = None
granted_by (change.RevokeOption by atoms whom) = None
granted_by change.Other = None

module _ (l : Limits) (journal : List Entry) (user : User) (lawful : IsLawful l journal) (on : On (tables_at journal) (granted (changes journal))) where
  -- the table is new
  abbrev Fresh : Name → Type 0
  Fresh table = (owner_of (owners_after (changes journal)) table ≡ None) × (is_granted (changes journal) table ≡ false)

  is_fresh : (table : Name) → table_of (tables_at journal) table ≡ None → Fresh table
  is_fresh table none = (
    owners-whole l journal lawful table ∙ ap (option_map (λ t. t.owner)) none,
    never_granted (tables_at journal) table (granted (changes journal)) on (ap is_some none),
  )

  fresh : (s : Statement) (table : Name) → verdict_at l journal user s ≡ Ok tt → created_by (change_of (tables_at journal) user s) ≡ Some table → Fresh table
  fresh (statements.CreateTable name columns) table ok is =
      let same : name ≡ table = some_same name table is in
      subst Fresh same (is_fresh name (new (state_of l journal) user (statements.CreateTable name columns) ok))
  fresh _ table ok is = absurd (none_some table is)

  -- he may grant each of the atoms
  abbrev Grantable : User × List Atom → Type 0
  Grantable g = All (λ atom. may_grant_after (changes journal) g.0 atom ≡ true) g.1

  grantable : (s : Statement) (g : User × List Atom) → verdict_at l journal user s ≡ Ok tt → granted_by (change_of (tables_at journal) user s) ≡ Some g → Grantable g
  grantable (statements.Grant privileges name users option) g ok is =
      let same : (user, atoms_at (tables_at journal) name privileges) ≡ g = some_same _ g is in
      subst Grantable same (may (state_of l journal) user privileges name users option ok)
  grantable _ g ok is = absurd (none_some g is)

  more : (s : Statement) → verdict_at l journal user s ≡ Ok tt → AreLawful (changes journal) → AreLawful (changes journal ++ change_of (tables_at journal) user s ∷ [])
  more s ok h = record {
    created = λ before after table owner is. ⊎_elim
        (λ (last : (before ≡ changes journal) × (change.Create table owner ≡ change_of (tables_at journal) user s)).
        let Here : List Change → Type 0 = λ cs. (owner_of (owners_after cs) table ≡ None) × (is_granted cs table ≡ false) in
        subst Here (sym last.0) (fresh s table ok (sym (ap created_by last.1))))
        (λ (front : (rest : List Change) × (changes journal ≡ before ++ change.Create table owner ∷ rest)). h.created before front.0 table owner front.1)
        (split_last (changes journal) (change_of (tables_at journal) user s) (change.Create table owner) before after is);
    grantable = λ before after by atoms whom option is. ⊎_elim
        (λ (last : (before ≡ changes journal) × (change.Grant by atoms whom option ≡ change_of (tables_at journal) user s)).
        let Here : List Change → Type 0 = λ cs. All (λ atom. may_grant_after cs by atom ≡ true) atoms in
        subst Here (sym last.0) (grantable s (by, atoms) ok (sym (ap granted_by last.1))))
        (λ (front : (rest : List Change) × (changes journal ≡ before ++ change.Grant by atoms whom option ∷ rest)). h.grantable before front.0 by atoms whom option front.1)
        (split_last (changes journal) (change_of (tables_at journal) user s) (change.Grant by atoms whom option) before after is);
  }

-- what the grants of a journal are on, and that its changes are lawful
record Stands (journal : List Entry) : Type 0 where
  on : On (tables_at journal) (granted (changes journal))
  lawful : AreLawful (changes journal)

stands-more : (l : Limits) (journal : List Entry) (e : Entry) → IsLawful l journal → verdict_at l journal e.user e.statement ≡ Ok tt → Stands journal → Stands (journal ++ e ∷ [])
stands-more l journal e lawful ok h =
    let tables = tables_at journal in
    let c : Change = change_of tables e.user e.statement in
    let is_new = new (state_of l journal) e.user e.statement ok in
    let On' : List (Name × Table) → List Change → Type 0 = λ ts cs. On ts (granted cs) in
    let grown : On (tables_with tables e) (granted (changes journal ++ c ∷ [])) = granted_on tables (tables_with tables e) (changes journal) c h.on (on_tables (state_of l journal) e.user e.statement ok) (λ name. is_table-after tables e.user e.statement name is_new) in
    record {
      on = subst (λ (ts : List (Name × Table)). On' ts (changes (journal ++ e ∷ []))) (sym (contents-more journal e)) (subst (λ (cs : List Change). On' (tables_with tables e) cs) (sym (changes-more journal e)) grown);
      lawful = subst (λ (cs : List Change). AreLawful cs) (sym (changes-more journal e)) (more l journal e.user lawful h.on e.statement ok h.lawful);
    }

stands-from : (l : Limits) (before es : List Entry) → IsLawful l before → Stands before → IsLawfulFrom l before es → Stands (before ++ es)
stands-from l before [] lawful h m = subst (λ (k : List Entry). Stands k) (sym (append-nil before)) h
stands-from l before (e ∷ es) lawful h m =
    subst (λ (k : List Entry). Stands k) (append_assoc before (e ∷ []) es)
    (stands-from l (before ++ e ∷ []) es (lawful-more l [] before e lawful m.1 m.0) (stands-more l before e lawful m.1 h) m.2)

none_first : {A : Type 0} (before after : List A) (x : A) → [] ≡ before ++ x ∷ after → ⊥
none_first [] after x e = cc
none_first (b ∷ bs) after x e = cc

-- **the changes of a lawful journal are lawful**
pub lawful_changes : (l : Limits) (journal : List Entry) → IsLawful l journal → AreLawful (changes journal)
lawful_changes l journal lawful =
    (stands-from l [] journal tt (record {
      on = tt;
      lawful = record {
        created = λ before after table owner is. absurd (none_first before after (change.Create table owner) is);
        grantable = λ before after by atoms whom option is. absurd (none_first before after (change.Grant by atoms whom option) is);
      };
    }) lawful).lawful

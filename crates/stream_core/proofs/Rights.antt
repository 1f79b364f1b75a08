-- What one more entry of a lawful journal makes of the grants in force.
use Rattle.std.proofs.Common.{◌≡◌, ◌+◌, true, false, List, [], ◌∷◌, ◌++◌, Ok, length, sym, ap, subst, ◌∙◌, arith, append_assoc, append-nil}
use Rattle.std.specs.Option.{is_some}
use Rattle.base_core.specs.declared.name.Name.{Name}
use Rattle.base_core.specs.declared.name.User.{User}
use Rattle.base_core.specs.declared.limits.Limits.{Limits}
use Rattle.reader_core.specs.declared.statement.Statement.{Statement}
use Rattle.reader_core.specs.declared.statement.Statement.TheVariants as statements
use Rattle.tables_core.specs.Contents.{Table}
use Rattle.grants_core.specs.declared.grant.Change.{Change}
use Rattle.grants_core.specs.Content.{Rights}
use Rattle.grants_core.specs.History.{content_after, granted, grants_of}
use Rattle.grants_core.proofs.HistoryLemmas.{content-create, content-grant, content-revoke, content-revoke_option, content-other}
use Rattle.monitor_core.specs.Verdict.{atoms_at, is_change, is_table}
use Rattle.system_core.specs.declared.machine.event.Entry.{Entry}
use Rattle.system_core.specs.Journal.{tables_at, tables_with, change_of, changes, rights_at, state_of, verdict_at, IsLawful, IsLawfulFrom}
use Rattle.system_core.proofs.TableLemmas.{is_table-after}
use Rattle.system_core.proofs.Growing.{On, changes-more, granted_on, length-changes, never_granted}
use Rattle.system_core.proofs.Keeping.{contents-more, may, new, on_tables}
use Rattle.stream_core.specs.Losses.{IsReducedTo, is_revoking}
use Rattle.stream_core.proofs.Left.{left-revoked, left-unoptioned}

-- every grant that a lawful journal made is of a table
on-more : (l : Limits) (before es : List Entry) → IsLawfulFrom l before es → On (tables_at before) (granted (changes before)) → On (tables_at (before ++ es)) (granted (changes (before ++ es)))
on-more l before [] h on = let Here : List Entry → Type 0 = λ k. On (tables_at k) (granted (changes k)) in subst Here (sym (append-nil before)) on
on-more l before (e ∷ es) h on =
    let next : List Entry = before ++ e ∷ [] in
    let ts : List (Name × Table) = tables_at before in
    let Here : List Entry → Type 0 = λ k. On (tables_at k) (granted (changes k)) in
    let fresh = new (state_of l before) e.user e.statement h.1 in
    let OnTables : List (Name × Table) → Type 0 = λ k. On k (granted (changes before ++ change_of ts e.user e.statement ∷ [])) in
    let OnChanges : List Change → Type 0 = λ cs. On (tables_at next) (granted cs) in
    let stays = λ (name : Name) (here : is_table ts name ≡ true). is_table-after ts e.user e.statement name fresh here in
    let after = granted_on ts (tables_with ts e) (changes before) (change_of ts e.user e.statement) on (on_tables (state_of l before) e.user e.statement h.1) stays in
    subst Here (append_assoc before (e ∷ []) es)
    (on-more l next es h.2 (subst OnChanges (sym (changes-more before e)) (subst OnTables (sym (contents-more before e)) after)))

on-lawful : (l : Limits) (journal : List Entry) → IsLawful l journal → On (tables_at journal) (granted (changes journal))
on-lawful l journal h = on-more l [] journal h tt

module _ (l : Limits) (journal : List Entry) (h : IsLawful l journal) where
  -- **a change that is no revocation leaves what is in force, and adds the grants that it makes**
  made-more : (user : User) (s : Statement) → is_change s ≡ true → is_revoking s ≡ false → verdict_at l journal user s ≡ Ok tt
      → (content_after (changes journal ++ change_of (tables_at journal) user s ∷ [])).in_force
      ≡ (rights_at journal).in_force ++ grants_of (rights_at journal).made (length journal + 1) (change_of (tables_at journal) user s)
  made-more user (statements.CreateTable table columns) change gives ok =
      let none : is_table (tables_at journal) table ≡ false = ap is_some (new (state_of l journal) user (statements.CreateTable table columns) ok) in
      ap (λ (r : Rights). r.in_force) (content-create (changes journal) table user (never_granted (tables_at journal) table (granted (changes journal)) (on-lawful l journal h) none))
      ∙ sym (append-nil (rights_at journal).in_force)
  made-more user (statements.Insert table values) change gives ok = ap (λ (r : Rights). r.in_force) (content-other (changes journal)) ∙ sym (append-nil (rights_at journal).in_force)
  made-more user (statements.Delete table filter) change gives ok = ap (λ (r : Rights). r.in_force) (content-other (changes journal)) ∙ sym (append-nil (rights_at journal).in_force)
  made-more user (statements.Update table sets filter) change gives ok = ap (λ (r : Rights). r.in_force) (content-other (changes journal)) ∙ sym (append-nil (rights_at journal).in_force)
  made-more user (statements.Grant privileges table users option) change gives ok =
      let count : 1 + length (changes journal) ≡ length journal + 1 = omega (arith, length-changes journal) in
      let atoms = atoms_at (tables_at journal) table privileges in
      ap (λ (r : Rights). r.in_force) (content-grant (changes journal) user atoms users option (may (state_of l journal) user privileges table users option ok))
      ∙ ap (λ m. (rights_at journal).in_force ++ grants_of (rights_at journal).made m (change_of (tables_at journal) user (statements.Grant privileges table users option))) count
  made-more user (statements.Revoke privileges table users) change gives ok = cc
  made-more user (statements.RevokeOption privileges table users) change gives ok = cc
  made-more user (statements.Select list table filter) change gives ok = cc
  made-more user statements.Checkpoint change gives ok = cc
  made-more user statements.Checkpoints change gives ok = cc
  made-more user (statements.Export number only) change gives ok = cc

  pub in_force-made : (e : Entry) → is_change e.statement ≡ true → is_revoking e.statement ≡ false → verdict_at l journal e.user e.statement ≡ Ok tt
      → (rights_at (journal ++ e ∷ [])).in_force ≡ (rights_at journal).in_force ++ grants_of (rights_at journal).made (length journal + 1) (change_of (tables_at journal) e.user e.statement)
  in_force-made e change gives ok = ap (λ cs. (content_after cs).in_force) (changes-more journal e) ∙ made-more e.user e.statement change gives ok

module _ (journal : List Entry) where
  -- **a revocation leaves some of what is in force**
  left-more : (user : User) (s : Statement) → is_revoking s ≡ true → IsReducedTo (rights_at journal).in_force (content_after (changes journal ++ change_of (tables_at journal) user s ∷ [])).in_force
  left-more user (statements.Revoke privileges table users) takes =
      let atoms = atoms_at (tables_at journal) table privileges in
      let gs = (rights_at journal).in_force in
      subst (IsReducedTo gs) (sym (ap (λ (r : Rights). r.in_force) (content-revoke (changes journal) user atoms users))) (left-revoked (rights_at journal).owners user atoms users gs)
  left-more user (statements.RevokeOption privileges table users) takes =
      let atoms = atoms_at (tables_at journal) table privileges in
      let gs = (rights_at journal).in_force in
      subst (IsReducedTo gs) (sym (ap (λ (r : Rights). r.in_force) (content-revoke_option (changes journal) user atoms users))) (left-unoptioned (rights_at journal).owners user atoms users gs)
  left-more user (statements.CreateTable table columns) takes = cc
  left-more user (statements.Insert table values) takes = cc
  left-more user (statements.Delete table filter) takes = cc
  left-more user (statements.Update table sets filter) takes = cc
  left-more user (statements.Grant privileges table users option) takes = cc
  left-more user (statements.Select list table filter) takes = cc
  left-more user statements.Checkpoint takes = cc
  left-more user statements.Checkpoints takes = cc
  left-more user (statements.Export number only) takes = cc

  pub in_force-left : (e : Entry) → is_revoking e.statement ≡ true → IsReducedTo (rights_at journal).in_force (rights_at (journal ++ e ∷ [])).in_force
  in_force-left e takes =
      subst (λ cs. IsReducedTo (rights_at journal).in_force (content_after cs).in_force) (sym (changes-more journal e)) (left-more e.user e.statement takes)

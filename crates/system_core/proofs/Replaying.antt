-- The changes of a lawful journal, by its tables at its end: a table's columns stay.
use Rattle.std.proofs.Common.{◌≡◌, true, List, [], ◌∷◌, ◌++◌, Ok, map, refl, sym, ap, ◌∙◌, append_assoc}
use Rattle.std.proofs.lemmas.List.{append-nil}
use Rattle.base_core.specs.declared.name.Name.{Name}
use Rattle.base_core.specs.declared.name.User.{User}
use Rattle.base_core.specs.declared.limits.Limits.{Limits}
use Rattle.base_core.specs.declared.value.Column.{Column}
use Rattle.reader_core.specs.declared.statement.Statement.{Statement}
use Rattle.reader_core.specs.declared.statement.Statement.TheVariants as statements
use Rattle.tables_core.specs.Contents.{Table}
use Rattle.grants_core.specs.declared.grant.Change.{Change}
use Rattle.grants_core.specs.declared.grant.Change.TheVariants as change
use Rattle.monitor_core.specs.Atoms.{atoms_of}
use Rattle.system_core.specs.declared.machine.event.Entry.{Entry}
use Rattle.monitor_core.specs.Verdict.{State, checks, verdict, is_table, columns_of}
use Rattle.system_core.specs.Journal.{tables_at, tables_with, change_of, changes, changes_from, state_of, IsLawfulFrom, IsLawful}
use Rattle.monitor_core.proofs.Passing.{require-Ok, passed}
use Rattle.system_core.proofs.TableLemmas.{is_table-after, columns-after}
use Rattle.system_core.proofs.Keeping.{contents-more, new}

-- an allowed statement changes the same, at tables where those that stand have the same columns
alike : (at : State) (others : List (Name × Table)) (user : User) (s : Statement) → ((name : Name) → is_table at.tables name ≡ true → columns_of others name ≡ columns_of at.tables name) → verdict at user s ≡ Ok tt → change_of others user s ≡ change_of at.tables user s
alike at others user (statements.Grant privileges table users option) h ok =
    ap (λ (columns : List Column). change.Grant user (atoms_of table columns privileges) users option) (h table (require-Ok _ _ (passed (checks at user (statements.Grant privileges table users option)) ok).0))
alike at others user (statements.Revoke privileges table users) h ok =
    ap (λ (columns : List Column). change.Revoke user (atoms_of table columns privileges) users) (h table (require-Ok _ _ (passed (checks at user (statements.Revoke privileges table users)) ok).0))
alike at others user (statements.RevokeOption privileges table users) h ok =
    ap (λ (columns : List Column). change.RevokeOption user (atoms_of table columns privileges) users) (h table (require-Ok _ _ (passed (checks at user (statements.RevokeOption privileges table users)) ok).0))
alike at others user _ h ok = refl

-- the columns of a table stay
pub columns-stay : (l : Limits) (before es : List Entry) (name : Name) → IsLawfulFrom l before es → is_table (tables_at before) name ≡ true → columns_of (tables_at (before ++ es)) name ≡ columns_of (tables_at before) name
columns-stay l before [] name h here = ap (λ k. columns_of (tables_at k) name) (append-nil before)
columns-stay l before (e ∷ es) name h here =
    let next : List Entry = before ++ e ∷ [] in
    let fresh = new (state_of l before) e.user e.statement h.1 in
    let after : is_table (tables_at next) name ≡ true = ap (λ ts. is_table ts name) (contents-more before e) ∙ is_table-after (tables_at before) e.user e.statement name fresh here in
    ap (λ k. columns_of (tables_at k) name) (sym (append_assoc before (e ∷ []) es))
    ∙ (columns-stay l next es name h.2 after
    ∙ (ap (λ ts. columns_of ts name) (contents-more before e) ∙ columns-after (tables_at before) e.user e.statement name fresh here))

at_once : (l : Limits) (before es : List Entry) → IsLawfulFrom l before es → map (λ (e : Entry). change_of (tables_at (before ++ es)) e.user e.statement) es ≡ changes_from (tables_at before) es
at_once l before [] h = refl
at_once l before (e ∷ es) h =
    let next : List Entry = before ++ e ∷ [] in
    let by : List Entry → List Change = λ k. map (λ (x : Entry). change_of (tables_at k) x.user x.statement) es in
    let here : change_of (tables_at (before ++ e ∷ es)) e.user e.statement ≡ change_of (tables_at before) e.user e.statement =
    alike (state_of l before) (tables_at (before ++ e ∷ es)) e.user e.statement (λ name stands. columns-stay l before (e ∷ es) name h stands) h.1 in
    let rest : by (before ++ e ∷ es) ≡ changes_from (tables_with (tables_at before) e) es =
    ap by (sym (append_assoc before (e ∷ []) es)) ∙ (at_once l next es h.2 ∙ ap (λ ts. changes_from ts es) (contents-more before e)) in
    ap (λ c. c ∷ by (before ++ e ∷ es)) here ∙ ap (λ k. change_of (tables_at before) e.user e.statement ∷ k) rest

pub changes-at_once : (l : Limits) (journal : List Entry) → IsLawful l journal → map (λ (e : Entry). change_of (tables_at journal) e.user e.statement) journal ≡ changes journal
changes-at_once l journal h = at_once l [] journal h

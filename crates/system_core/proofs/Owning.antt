-- In a lawful journal the owner of a table is the same by its tables and by its rights, at each moment.
use Rattle.std.proofs.Common.{◌≡◌, ℕ, zero, suc, Bool, true, false, cond, List, [], ◌∷◌, ◌++◌, Option, Some, None, take, refl, sym, ap, ◌∙◌, subst, append-nil, append_assoc, ⊎_elim, length}
use Rattle.std.specs.Option.{option_map}
use Rattle.std.proofs.lemmas.Bool.{cases_Bool}
use Rattle.std.proofs.lemmas.List.Sums.{fold-append}
use Rattle.std.proofs.Math.Seq.{take-length}
use Rattle.base_core.specs.Words.{same_name}
use Rattle.base_core.specs.declared.name.Name.{Name}
use Rattle.base_core.specs.declared.name.User.{User}
use Rattle.base_core.specs.declared.value.Moment.{Moment}
use Rattle.base_core.specs.declared.limits.Limits.{Limits}
use Rattle.reader_core.specs.declared.statement.Statement.{Statement}
use Rattle.reader_core.specs.declared.statement.Statement.TheVariants as statements
use Rattle.tables_core.specs.Contents.{Table, empty_table, with_row, without_chosen_rows, with_updated_rows, table_of}
use Rattle.tables_core.proofs.ContentsLemmas.{table_of-append}
use Rattle.grants_core.specs.declared.grant.Ownership.{Ownership}
use Rattle.grants_core.specs.Owners.{owner_of, with_owner}
use Rattle.grants_core.specs.History.{owners_with, owners_after}
use Rattle.base_core.proofs.SameLemmas.{same_name-true}
use Rattle.grants_core.proofs.OwnersLemmas.{owner_of-with_owner, owner_of-noted}
use Rattle.monitor_core.specs.Verdict.{atoms_at}
use Rattle.system_core.specs.declared.machine.event.Entry.{Entry}
use Rattle.system_core.specs.Journal.{tables_at, tables_after, change_of, changes, rights_at, state_of, IsLawfulFrom, IsLawful}
use Rattle.system_core.specs.Exports.{journal_at}
use Rattle.system_core.proofs.TableLemmas.{IsNew, changed}
use Rattle.system_core.proofs.Growing.{owner_of-new, changes-more}
use Rattle.system_core.proofs.Keeping.{new, contents-more}

-- the owner of a table, by the tables
abbrev pub owner_in : List (Name × Table) → Name → Option User
owner_in tables name = option_map (λ t. t.owner) (table_of tables name)

-- the owners of the rights are those of the tables
abbrev pub OwnersAre : List Ownership → List (Name × Table) → Type 0
OwnersAre owners tables = (name : Name) → owner_of owners name ≡ owner_in tables name

abbrev pub OwnersStand : List Entry → Type 0
OwnersStand journal = OwnersAre (rights_at journal).owners (tables_at journal)

module _ (os : List Ownership) (tables : List (Name × Table)) (h : OwnersAre os tables) where
  -- a new table
  created : (table : Name) (user : User) (t : Table) → t.owner ≡ user → table_of tables table ≡ None → OwnersAre (with_owner table user os) (tables ++ (table, t) ∷ [])
  created table user t own new_name name =
      let later : owner_in (tables ++ (table, t) ∷ []) name ≡ owned (same_name table name) = ap (option_map (λ u. u.owner)) (table_of-append tables table name t new_name) ∙ both (same_name table name) in
      ⊎_elim
      (λ (same : same_name table name ≡ true).
      let P : Name → Type 0 = λ n. owner_of (with_owner table user os) n ≡ Some user in
      subst P (same_name-true table name same) (owner_of-new table user os) ∙ sym (later ∙ ap owned same))
      (λ (other : same_name table name ≡ false). owner_of-with_owner table user os name other ∙ h name ∙ sym (later ∙ ap owned other))
      (cases_Bool (same_name table name))
    where
      owned : Bool → Option User
      owned true = Some user
      owned false = owner_in tables name

      both : (b : Bool) → option_map (λ (u : Table). u.owner) (cond b (Some t) (table_of tables name)) ≡ owned b
      both true = ap Some own
      both false = refl

  -- a change to a table leaves its owner
  same_owner : (change : Table → Table) → ((t : Table) → (change t).owner ≡ t.owner) → (o : Option Table) → option_map (λ (t : Table). t.owner) (option_map change o) ≡ option_map (λ t. t.owner) o
  same_owner change same None = refl
  same_owner change same (Some t) = ap Some (same t)

  pub owners-after : (user : User) (s : Statement) → IsNew tables s → OwnersAre (owners_with os (change_of tables user s)) (tables_after tables user s)
  owners-after user (statements.CreateTable table columns) is_new = created table user (empty_table user columns) refl is_new
  owners-after user (statements.Insert table values) is_new = λ name. changed (λ o. owner_of os name ≡ option_map (λ t. t.owner) o) tables table (with_row (record { values = values })) name (λ e. e ∙ sym (same_owner _ (λ t. refl) (table_of tables name))) (h name)
  owners-after user (statements.Delete table filter) is_new = λ name. changed (λ o. owner_of os name ≡ option_map (λ t. t.owner) o) tables table (without_chosen_rows filter) name (λ e. e ∙ sym (same_owner _ (λ t. refl) (table_of tables name))) (h name)
  owners-after user (statements.Update table sets filter) is_new = λ name. changed (λ o. owner_of os name ≡ option_map (λ t. t.owner) o) tables table (with_updated_rows sets filter) name (λ e. e ∙ sym (same_owner _ (λ t. refl) (table_of tables name))) (h name)
  owners-after user (statements.Grant privileges table users option) is_new = λ name. owner_of-noted (atoms_at tables table privileges) os name ∙ h name
  owners-after user _ is_new = h

owners-more : (journal : List Entry) (e : Entry) → IsNew (tables_at journal) e.statement → OwnersStand journal → OwnersStand (journal ++ e ∷ [])
owners-more journal e is_new h =
    let c = change_of (tables_at journal) e.user e.statement in
    let os : owners_after (changes (journal ++ e ∷ [])) ≡ owners_with (owners_after (changes journal)) c = ap owners_after (changes-more journal e) ∙ fold-append owners_with [] (changes journal) (c ∷ []) in
    subst (λ (tables : List (Name × Table)). OwnersAre (rights_at (journal ++ e ∷ [])).owners tables) (sym (contents-more journal e))
    (subst (λ (owners : List Ownership). OwnersAre owners (tables_after (tables_at journal) e.user e.statement)) (sym os) (owners-after (rights_at journal).owners (tables_at journal) h e.user e.statement is_new))

owners-from : (limits : Limits) (before es : List Entry) → OwnersStand before → IsLawfulFrom limits before es → (n : ℕ) → OwnersStand (before ++ take n es)
owners-from limits before es h lawful zero = subst OwnersStand (sym (append-nil before)) h
owners-from limits before [] h lawful (suc n) = subst OwnersStand (sym (append-nil before)) h
owners-from limits before (e ∷ es) h lawful (suc n) =
    subst OwnersStand (append_assoc before (e ∷ []) (take n es))
    (owners-from limits (before ++ e ∷ []) es (owners-more before e (new (state_of limits before) e.user e.statement lawful.1) h) lawful.2 n)

-- **at each moment of a lawful journal**
pub owners-at : (limits : Limits) (journal : List Entry) (point : Moment) → IsLawful limits journal → OwnersStand (journal_at journal point)
owners-at limits journal point lawful = owners-from limits [] journal (λ name. refl) lawful point.0

-- and at its end
pub owners-whole : (limits : Limits) (journal : List Entry) → IsLawful limits journal → OwnersStand journal
owners-whole limits journal lawful = subst OwnersStand (take-length journal) (owners-from limits [] journal (λ name. refl) lawful (length journal))

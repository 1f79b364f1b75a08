-- Journals that leave the same judge alike, and leave the same after each further change.
use Rattle.std.proofs.Common.{◌≡◌, ℕ, ◌+◌, ◌<◌, ◌≤◌, true, ◌||◌, ◌&&◌, subst, List, [], ◌∷◌, ◌++◌, length, Ok, refl, sym, ap, ◌∙◌, append_assoc, append-nil, arith}
use Rattle.std.specs.List.{list_any}
use Rattle.std.proofs.lemmas.Bool.{lt-ltb}
use Rattle.std.proofs.lemmas.List.{map-append, length-append, take_all}
use Rattle.base_core.specs.declared.name.User.{User}
use Rattle.base_core.specs.declared.limits.Limits.{Limits}
use Rattle.base_core.specs.declared.lack.Lack.TheVariants as lacks
use Rattle.base_core.specs.declared.lack.What.TheVariants as whats
use Rattle.reader_core.specs.declared.statement.Statement.{Statement}
use Rattle.reader_core.specs.declared.statement.Statement.TheVariants as statements
use Rattle.grants_core.specs.declared.grant.Grant.{Grant}
use Rattle.grants_core.specs.declared.grant.Change.{Change}
use Rattle.grants_core.specs.declared.grant.Change.TheVariants as change
use Rattle.grants_core.specs.Content as rights
use Rattle.grants_core.specs.Content.{Rights, gives, singles}
use Rattle.monitor_core.specs.Verdict.{State, require, checks, verdict, room_for_change, is_change}
use Rattle.monitor_core.proofs.Passing.{passed}
use Rattle.system_core.specs.declared.machine.event.Entry.{Entry}
use Rattle.system_core.specs.Journal.{tables_at, change_of, rights_at, state_of, verdict_at, IsLawfulFrom, IsLawful}
use Rattle.system_core.specs.Carrying.{rights_after}
use Rattle.system_core.proofs.Agreeing.{owns-alike}
use Rattle.system_core.proofs.Owning.{OwnersStand, owners-at}
use Rattle.system_core.proofs.Keeping.{contents-more, lawful-more}
use Rattle.dump_core.specs.Alike.{AreAlike, undated, plain_grants, plain_tables}
use Rattle.dump_core.specs.Laws.{AreLawfulAlike}
use Rattle.dump_core.proofs.InTurn.{AreInTurn}
use Rattle.dump_core.proofs.Undated.{OwnAlike, holds-undated, may_grant-undated, has_made-undated, has_optioned-undated, count_of-undated, singles-undated, revoked-undated, unoptioned-undated}
use Rattle.dump_core.proofs.Facts.{known, rights-more}
use Rattle.dump_core.proofs.Verdicts.{AskAlike, verdict-alike}
use Rattle.dump_core.proofs.PlainTables.{is_table-alike, columns-alike, owner-alike, length-alike, change-alike, plain-after}

-- ---- judging
pub owners-stand : (l : Limits) (journal : List Entry) → IsLawful l journal → OwnersStand journal
owners-stand l journal lawful = subst OwnersStand (take_all (length journal) journal (omega arith)) (owners-at l journal (record { 0 = length journal }) lawful)

module _ (l : Limits) (a b : List Entry) (h : AreLawfulAlike l a b) where
  own : OwnAlike (rights_at a).owners (rights_at b).owners
  own user atom =
      owns-alike (rights_at a).owners (rights_at b).owners user atom
      (owners-stand l a h.first atom.table ∙ owner-alike (tables_at a) (tables_at b) h.alike.tables atom.table ∙ sym (owners-stand l b h.second atom.table))

  ask-alike : AskAlike (state_of l a) (state_of l b)
  ask-alike =
      let f : List Grant = (rights_at a).in_force in
      let g : List Grant = (rights_at b).in_force in
      let os = (rights_at a).owners in
      let ps = (rights_at b).owners in
      record {
        limits = refl;
        tables = is_table-alike (tables_at a) (tables_at b) h.alike.tables;
        columns = columns-alike (tables_at a) (tables_at b) h.alike.tables;
        many = length-alike (tables_at a) (tables_at b) h.alike.tables;
        holds = λ user atom. sym (holds-undated os f user atom) ∙ ap (λ k. rights.holds os k user atom) h.alike.grants
            ∙ ap (λ o. o || list_any (gives user atom) (plain_grants g)) (own user atom) ∙ holds-undated ps g user atom;
        may_grant = λ user atom. sym (may_grant-undated os f user atom) ∙ ap (λ k. rights.may_grant os k user atom) h.alike.grants
            ∙ ap (λ o. o || list_any (λ k. k.option && gives user atom k) (plain_grants g)) (own user atom) ∙ may_grant-undated ps g user atom;
        has_made = λ by user atom. sym (has_made-undated f by user atom) ∙ ap (λ k. rights.has_made k by user atom) h.alike.grants ∙ has_made-undated g by user atom;
        has_optioned = λ by user atom. sym (has_optioned-undated f by user atom) ∙ ap (λ k. rights.has_optioned k by user atom) h.alike.grants ∙ has_optioned-undated g by user atom;
        count_of = λ atom. sym (count_of-undated f atom) ∙ ap (λ k. rights.count_of k atom) h.alike.grants ∙ count_of-undated g atom;
      }

  pub judged : (user : User) (asked : Statement) → (is_change asked ≡ true → room_for_change (state_of l a) ≡ room_for_change (state_of l b)) → verdict_at l a user asked ≡ verdict_at l b user asked
  judged user asked room = verdict-alike (state_of l a) (state_of l b) ask-alike user asked room

-- there is room below the limit
pub in_room : (l : Limits) (journal : List Entry) → length journal < l.changes → room_for_change (state_of l journal) ≡ Ok tt
in_room l journal lt = ap (λ b. require b (lacks.Full whats.Changes)) (lt-ltb (length journal) l.changes lt)

-- an allowed change had it
had_room : (at : State) (user : User) (s : Statement) → is_change s ≡ true → verdict at user s ≡ Ok tt → room_for_change at ≡ Ok tt
had_room at user (statements.CreateTable table columns) c ok = (passed (checks at user (statements.CreateTable table columns)) ok).1.0
had_room at user (statements.Insert table values) c ok = (passed (checks at user (statements.Insert table values)) ok).1.1.1.1.0
had_room at user (statements.Delete table filter) c ok = (passed (checks at user (statements.Delete table filter)) ok).1.1.1.1.1.0
had_room at user (statements.Update table sets filter) c ok = (passed (checks at user (statements.Update table sets filter)) ok).1.1.1.1.1.1.1.0
had_room at user (statements.Grant asked table users option) c ok = (passed (checks at user (statements.Grant asked table users option)) ok).1.1.1.0
had_room at user (statements.Revoke asked table users) c ok = (passed (checks at user (statements.Revoke asked table users)) ok).1.1.1.0
had_room at user (statements.RevokeOption asked table users) c ok = (passed (checks at user (statements.RevokeOption asked table users)) ok).1.1.1.0
had_room at user _ c ok = cc

-- ---- one more change
plain-rights : (c d : Rights) (m n : ℕ) (ch : Change) → OwnAlike c.owners d.owners → AreInTurn c.in_force → AreInTurn d.in_force → plain_grants c.in_force ≡ plain_grants d.in_force
    → plain_grants (rights_after c m ch).in_force ≡ plain_grants (rights_after d n ch).in_force
plain-rights c d m n (change.Create table owner) owned t u e = e
plain-rights c d m n (change.Grant by atoms whom option) owned t u e =
    let new : List Grant = singles c.made (record { 0 = m + 1 }) by atoms whom option in
    let then : List Grant = singles d.made (record { 0 = n + 1 }) by atoms whom option in
    map-append undated c.in_force new
    ∙ ap (λ k. k ++ plain_grants new) e
    ∙ ap (λ k. plain_grants d.in_force ++ k) (singles-undated c.made d.made (record { 0 = m + 1 }) (record { 0 = n + 1 }) by atoms whom option)
    ∙ sym (map-append undated d.in_force then)
plain-rights c d m n (change.Revoke by atoms whom) owned t u e = revoked-undated c.owners d.owners c.in_force d.in_force by atoms whom owned t u e
plain-rights c d m n (change.RevokeOption by atoms whom) owned t u e = unoptioned-undated c.owners d.owners c.in_force d.in_force by atoms whom owned t u e
plain-rights c d m n change.Other owned t u e = e

alike-more : (l : Limits) (a b : List Entry) (e : Entry) → AreLawfulAlike l a b → verdict_at l a e.user e.statement ≡ Ok tt → verdict_at l b e.user e.statement ≡ Ok tt → AreAlike (a ++ e ∷ []) (b ++ e ∷ [])
alike-more l a b e h ok_a ok_b =
    let of_a = known l a h.first in
    let of_b = known l b h.second in
    let ch : Change = change_of (tables_at a) e.user e.statement in
    record {
      tables = ap plain_tables (contents-more a e) ∙ plain-after (tables_at a) (tables_at b) e.user e.statement h.alike.tables ∙ ap plain_tables (sym (contents-more b e));
      grants =
          ap (λ (c : Rights). plain_grants c.in_force) (rights-more l a e.user e.statement of_a.on ok_a e.pass)
          ∙ plain-rights (rights_at a) (rights_at b) (length a) (length b) ch (own l a b h) of_a.turn of_b.turn h.alike.grants
          ∙ ap (λ c. plain_grants (rights_after (rights_at b) (length b) c).in_force) (change-alike (tables_at a) (tables_at b) h.alike.tables e.user e.statement)
          ∙ ap (λ (c : Rights). plain_grants c.in_force) (sym (rights-more l b e.user e.statement of_b.on ok_b e.pass));
    }

both-more : (l : Limits) (a b : List Entry) (e : Entry) → AreLawfulAlike l a b → is_change e.statement ≡ true → verdict_at l a e.user e.statement ≡ Ok tt → length b < l.changes → AreLawfulAlike l (a ++ e ∷ []) (b ++ e ∷ [])
both-more l a b e h change ok room =
    let same = judged l a b h e.user e.statement (λ c. had_room (state_of l a) e.user e.statement c ok ∙ sym (in_room l b room)) in
    let ok_b : verdict_at l b e.user e.statement ≡ Ok tt = sym same ∙ ok in
    record {
      first = lawful-more l [] a e h.first ok change;
      second = lawful-more l [] b e h.second ok_b change;
      alike = alike-more l a b e h ok ok_b;
    }

along : (l : Limits) (a b more : List Entry) → AreLawfulAlike l a b → IsLawfulFrom l a more → length b + length more ≤ l.changes → AreLawfulAlike l (a ++ more) (b ++ more)
along l a b [] h lawful room =
    let P : List Entry → Type 0 = λ k. AreLawfulAlike l k (b ++ []) in
    let Q : List Entry → Type 0 = λ k. AreLawfulAlike l a k in
    subst P (sym (append-nil a)) (subst Q (sym (append-nil b)) h)
along l a b (e ∷ more) h lawful room =
    let next : AreLawfulAlike l (a ++ e ∷ []) (b ++ e ∷ []) = both-more l a b e h lawful.0 lawful.1 (omega (arith, room)) in
    let long : length (b ++ e ∷ []) ≡ length b + 1 = length-append b (e ∷ []) in
    let rest : AreLawfulAlike l ((a ++ e ∷ []) ++ more) ((b ++ e ∷ []) ++ more) = along l (a ++ e ∷ []) (b ++ e ∷ []) more next lawful.2 (omega (arith, room, long)) in
    let P : List Entry → Type 0 = λ k. AreLawfulAlike l k ((b ++ e ∷ []) ++ more) in
    let Q : List Entry → Type 0 = λ k. AreLawfulAlike l (a ++ e ∷ more) k in
    subst Q (append_assoc b (e ∷ []) more) (subst P (append_assoc a (e ∷ []) more) rest)

-- what is lawful and has a beginning is lawful from there on
rest-lawful : (l : Limits) (before a more : List Entry) → IsLawfulFrom l before (a ++ more) → IsLawfulFrom l (before ++ a) more
rest-lawful l before [] more h = let P : List Entry → Type 0 = λ k. IsLawfulFrom l k more in subst P (sym (append-nil before)) h
rest-lawful l before (e ∷ a) more h =
    let P : List Entry → Type 0 = λ k. IsLawfulFrom l k more in
    subst P (append_assoc before (e ∷ []) a) (rest-lawful l (before ++ e ∷ []) a more h.2)

-- **they leave the same after whatever more**
pub stay-alike : (l : Limits) (a b more : List Entry) → AreLawfulAlike l a b → IsLawful l (a ++ more) → length (b ++ more) ≤ l.changes → AreLawfulAlike l (a ++ more) (b ++ more)
stay-alike l a b more h lawful room = along l a b more h (rest-lawful l [] a more lawful) (omega (arith, room, length-append b more))

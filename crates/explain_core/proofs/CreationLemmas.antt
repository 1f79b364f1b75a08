-- Who owns a table, by the changes that create it.
use Rattle.std.proofs.Common.{◌≡◌, ⊎_elim, ℕ, Bool, true, false, List, [], ◌∷◌, ◌++◌, Option, Some, None, refl, sym, ap, ◌∙◌, subst, append_assoc, suc, ◌<◌, ◌+◌, length, take, drop, get_or}
use Rattle.std.proofs.lemmas.Bool.{cases_Bool, cond-true, cond-false, both_ways, false_from_ne_true}
use Rattle.std.proofs.Math.Seq.{drop-cons}
use Rattle.std.proofs.lemmas.List.{append-nil, take_more, take-append-drop}
use Rattle.base_core.specs.Words.{same_name}
use Rattle.base_core.specs.Users.{same_user}
use Rattle.base_core.specs.declared.name.Name.{Name}
use Rattle.base_core.specs.declared.name.User.{User}
use Rattle.base_core.specs.declared.privilege.Atom.{Atom}
use Rattle.base_core.proofs.SameLemmas.{same_name-true, same_name-refl, same_user-true, same_user-refl}
use Rattle.grants_core.specs.declared.grant.Ownership.{Ownership}
use Rattle.grants_core.specs.declared.grant.Change.{Change}
use Rattle.grants_core.specs.declared.grant.Change.TheVariants as change
use Rattle.grants_core.specs.Owners.{owner_of, owns, with_owner}
use Rattle.grants_core.specs.History.{owners_with, owners_after}
use Rattle.grants_core.proofs.OwnersLemmas.{owner_of-cons, owner_of-with_owner, owner_of-noted, owns-with_owner, owns-with_granted}
use Rattle.grants_core.proofs.HistoryLemmas.{owners-more}
use Rattle.grants_core.specs.Lawful.{AreCreatedFirst}

owner_of-created : (table : Name) (user : User) (os : List Ownership) → owner_of (with_owner table user os) table ≡ Some user
owner_of-created table user [] =
    owner_of-cons (record { table = table; owner = user; granted = false }) [] table ∙ cond-true (same_name table table) (Some user) None (same_name-refl table)
owner_of-created table user (o ∷ os) =
    ⊎_elim
    (λ (here : same_name o.table table ≡ true).
    ap (λ k. owner_of k table) (cond-true (same_name o.table table) (record o { owner = user } ∷ os) (o ∷ with_owner table user os) here)
    ∙ owner_of-cons (record o { owner = user }) os table ∙ cond-true (same_name o.table table) (Some user) (owner_of os table) here)
    (λ (there : same_name o.table table ≡ false).
    ap (λ k. owner_of k table) (cond-false (same_name o.table table) (record o { owner = user } ∷ os) (o ∷ with_owner table user os) there)
    ∙ owner_of-cons o (with_owner table user os) table ∙ cond-false (same_name o.table table) (Some o.owner) (owner_of (with_owner table user os) table) there
    ∙ owner_of-created table user os)
    (cases_Bool (same_name o.table table))

-- who owns by the owner of the table
owns-by : (os : List Ownership) (owner user : User) (atom : Atom) → owner_of os atom.table ≡ Some owner → owns os user atom ≡ same_user owner user
unfolding owns
owns-by os owner user atom is = ap (λ (k : Option User). elim k as (λ _. Bool) [ Some o ↦ same_user o user | None ↦ false ]) is

-- a table has one owner at most
pub owns-once : (os : List Ownership) (one other : User) (atom : Atom) → owns os one atom ≡ true → owns os other atom ≡ true → one ≡ other
unfolding owns
owns-once os one other atom h k =
    by_owner (owner_of os atom.table) h k
  where
    by_owner : (owner : Option User) → elim owner as (λ _. Bool) [ Some o ↦ same_user o one | None ↦ false ] ≡ true → elim owner as (λ _. Bool) [ Some o ↦ same_user o other | None ↦ false ] ≡ true → one ≡ other
    by_owner None h k = absurd (both_ways false refl h)
    by_owner (Some o) h k = sym (same_user-true o one h) ∙ same_user-true o other k

-- a table that was created keeps its owner, since none is created twice
owner_stays : (before after : List Change) (table : Name) (owner : User) → AreCreatedFirst (before ++ after) → owner_of (owners_after before) table ≡ Some owner → owner_of (owners_after (before ++ after)) table ≡ Some owner
owner_stays before [] table owner first is = ap (λ k. owner_of (owners_after k) table) (append-nil before) ∙ is
owner_stays before (c ∷ cs) table owner first is =
    let Created : List Change → Type 0 = λ k. AreCreatedFirst k in
    ap (λ k. owner_of (owners_after k) table) (sym (append_assoc before (c ∷ []) cs))
    ∙ owner_stays (before ++ c ∷ []) cs table owner (subst Created (sym (append_assoc before (c ∷ []) cs)) first)
    (ap (λ k. owner_of k table) (owners-more before c) ∙ one_more c (λ name user e. (first before cs name user (ap (λ k. before ++ k ∷ cs) e)).0))
  where
    one_more : (d : Change) → ((name : Name) (user : User) → d ≡ change.Create name user → owner_of (owners_after before) name ≡ None) → owner_of (owners_with (owners_after before) d) table ≡ Some owner
    one_more (change.Create name user) none =
        ⊎_elim
        (λ (here : same_name name table ≡ true).
        let twice : Some owner ≡ None = sym is ∙ ap (owner_of (owners_after before)) (sym (same_name-true name table here)) ∙ none name user refl in
        absurd (let never : ⊥ = cc in never))
        (λ (there : same_name name table ≡ false). owner_of-with_owner name user (owners_after before) table there ∙ is)
        (cases_Bool (same_name name table))
    one_more (change.Grant by atoms whom option) none = owner_of-noted atoms (owners_after before) table ∙ is
    one_more (change.Revoke by atoms whom) none = is
    one_more (change.RevokeOption by atoms whom) none = is
    one_more (change.Other) none = is

-- **for whom the table was created, he owns it**
pub owns-created : (before after : List Change) (user : User) (atom : Atom) → AreCreatedFirst (before ++ change.Create atom.table user ∷ after) → owns (owners_after (before ++ change.Create atom.table user ∷ after)) user atom ≡ true
owns-created before after user atom first =
    let c : Change = change.Create atom.table user in
    let Created : List Change → Type 0 = λ k. AreCreatedFirst k in
    let is : owner_of (owners_after (before ++ c ∷ [])) atom.table ≡ Some user = ap (λ k. owner_of k atom.table) (owners-more before c) ∙ owner_of-created atom.table user (owners_after before) in
    owns-by (owners_after (before ++ c ∷ after)) user user atom
    (ap (λ k. owner_of (owners_after k) atom.table) (sym (append_assoc before (c ∷ []) after))
    ∙ owner_stays (before ++ c ∷ []) after atom.table user (subst Created (sym (append_assoc before (c ∷ []) after)) first) is)
    ∙ same_user-refl user

-- **and by no other change he comes to own it**
pub owns-not_created : (before : List Change) (c : Change) (user : User) (atom : Atom) → owns (owners_after before) user atom ≡ false → (c ≡ change.Create atom.table user → ⊥) → owns (owners_after (before ++ c ∷ [])) user atom ≡ false
owns-not_created before c user atom is not_so = ap (λ k. owns k user atom) (owners-more before c) ∙ one_more c not_so
  where
    one_more : (d : Change) → (d ≡ change.Create atom.table user → ⊥) → owns (owners_with (owners_after before) d) user atom ≡ false
    one_more (change.Create name owner) other =
        ⊎_elim
        (λ (here : same_name name atom.table ≡ true).
        let same : name ≡ atom.table = same_name-true name atom.table here in
        let P : Name → Type 0 = λ n. owner_of (with_owner n owner (owners_after before)) atom.table ≡ Some owner in
        owns-by (with_owner name owner (owners_after before)) owner user atom (subst P (sym same) (owner_of-created atom.table owner (owners_after before)))
        ∙ false_from_ne_true (same_user owner user)
        (λ his. other (ap (λ n. change.Create n owner) same ∙ ap (change.Create atom.table) (same_user-true owner user his))))
        (λ (there : same_name name atom.table ≡ false). owns-with_owner name owner (owners_after before) user atom there ∙ is)
        (cases_Bool (same_name name atom.table))
    one_more (change.Grant by atoms whom option) other = owns-with_granted atoms (owners_after before) user atom ∙ is
    one_more (change.Revoke by atoms whom) other = is
    one_more (change.RevokeOption by atoms whom) other = is
    one_more (change.Other) other = is

pub owns-none : (user : User) (atom : Atom) → owns [] user atom ≡ false
unfolding owns
owns-none user atom = refl

-- the same of the change that is read at a place
module _ (changes : List Change) (place : ℕ) (c : Change) (user : User) (atom : Atom) (within : place < length changes) (is : c ≡ get_or changes place c) where
  pub owns-created_there : AreCreatedFirst changes → c ≡ change.Create atom.table user → owns (owners_after changes) user atom ≡ true
  owns-created_there first creates =
      let after : List Change = drop (suc place) changes in
      let split : take place changes ++ change.Create atom.table user ∷ after ≡ changes =
      ap (λ k. take place changes ++ k ∷ after) (sym creates ∙ is) ∙ ap (λ k. take place changes ++ k) (sym (drop-cons changes place c within)) ∙ take-append-drop place changes in
      let Created : List Change → Type 0 = λ k. AreCreatedFirst k in
      ap (λ k. owns (owners_after k) user atom) (sym split) ∙ owns-created (take place changes) after user atom (subst Created (sym split) first)

  pub owns-not_created_there : owns (owners_after (take place changes)) user atom ≡ false → (c ≡ change.Create atom.table user → ⊥) → owns (owners_after (take (place + 1) changes)) user atom ≡ false
  owns-not_created_there before not_so =
      ap (λ k. owns (owners_after k) user atom) (take_more changes place c within ∙ ap (λ k. take place changes ++ k ∷ []) (sym is))
      ∙ owns-not_created (take place changes) c user atom before not_so

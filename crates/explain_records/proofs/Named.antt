-- Users whom changes name.
use Rattle.std.proofs.Common.{◌≡◌, ◌+◌, ◌<◌, ℕ, List, [], ◌∷◌, ◌++◌, length, take, get_or, refl, ap, ◌∙◌, append-nil}
use Rattle.std.specs.List.{flat_map}
use Rattle.std.proofs.lemmas.List.{take_more}
use Rattle.std.proofs.lemmas.List.Concat.{flat_map-append}
use Rattle.base_core.specs.declared.name.User.{User}
use Rattle.grants_core.specs.declared.grant.Change.{Change}
use Rattle.explain_core.specs.Listed.{with_user}
use Rattle.explain_records.specs.Givings.{users_in, with_users}

users-append : (xs ys known : List User) → with_users (xs ++ ys) known ≡ with_users ys (with_users xs known)
users-append [] ys known = refl
users-append (x ∷ xs) ys known = users-append xs ys (with_user x known)

pub users-more : (users : List User) (i : ℕ) (d : User) (known : List User) → i < length users → with_users (take (i + 1) users) known ≡ with_user (get_or users i d) (with_users (take i users) known)
users-more users i d known lt = ap (λ k. with_users k known) (take_more users i d lt) ∙ users-append (take i users) (get_or users i d ∷ []) known

pub named-more : (changes : List Change) (i : ℕ) (d : Change) (known : List User) → i < length changes
    → with_users (flat_map users_in (take (i + 1) changes)) known ≡ with_users (users_in (get_or changes i d)) (with_users (flat_map users_in (take i changes)) known)
named-more changes i d known lt =
    let c = get_or changes i d in
    ap (λ k. with_users k known)
    (ap (flat_map users_in) (take_more changes i d lt) ∙ flat_map-append users_in (take i changes) (c ∷ []) ∙ ap (λ k. flat_map users_in (take i changes) ++ k) (append-nil (users_in c)))
    ∙ users-append (flat_map users_in (take i changes)) (users_in c) known

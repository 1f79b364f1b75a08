-- Users, each once.
use Rattle.std.proofs.Common.{◌≡◌, ◌<◌, ◌+◌, ℕ, ◌||◌, ◌&&◌, not, Bool, true, false, cond, List, [], ◌∷◌, ◌++◌, length, take, get_or, refl, ap, ◌∙◌, subst}
use Rattle.std.specs.List.{All, list_any}
use Rattle.std.proofs.lemmas.Bool.{both_ways}
use Rattle.std.proofs.lemmas.List.{take_more}
use Rattle.std.proofs.lemmas.List.Folds.{list_any-append}
use Rattle.std.proofs.lemmas.List.Elements.{All-push, filter_agree}
use Rattle.base_core.specs.Privileges.{same_atom}
use Rattle.base_core.specs.Users.{same_user}
use Rattle.base_core.specs.declared.name.User.{User}
use Rattle.base_core.specs.declared.privilege.Atom.{Atom}
use Rattle.base_core.proofs.SameLemmas.{same_user-true}
use Rattle.grants_core.specs.declared.grant.Grant.{Grant}
use Rattle.grants_core.specs.Content.{names, without}
use Rattle.explain_core.specs.Listed.{with_user}
use Rattle.explain_core.proofs.LossLemmas.{listed-push, listed-pushed}

-- what is known of all and of one more is known with him
pub with-All : (P : User → Type 0) (users : List User) (u : User) → All P users → P u → All P (with_user u users)
with-All P users u all one = by (list_any (λ v. same_user v u) users)
  where
    by : (b : Bool) → All P (cond b users (users ++ u ∷ []))
    by true = all
    by false = All-push P users u all one

-- who was listed is
pub listed-with : (users : List User) (u : User) (h : Grant) → list_any (λ v. same_user v h.grantee) users ≡ true → list_any (λ v. same_user v h.grantee) (with_user u users) ≡ true
listed-with users u h old = by (list_any (λ v. same_user v u) users)
  where
    by : (b : Bool) → list_any (λ v. same_user v h.grantee) (cond b users (users ++ u ∷ [])) ≡ true
    by true = old
    by false = listed-push users u h old

-- and so is he
pub listed-self : (users : List User) (h : Grant) → list_any (λ v. same_user v h.grantee) (with_user h.grantee users) ≡ true
listed-self users h = by (list_any (λ v. same_user v h.grantee) users) refl
  where
    by : (b : Bool) → list_any (λ v. same_user v h.grantee) users ≡ b → list_any (λ v. same_user v h.grantee) (cond b users (users ++ h.grantee ∷ [])) ≡ true
    by true is = is
    by false is = listed-pushed users h

-- whom one more is among
pub with-any : (users : List User) (u x : User) → list_any (λ v. same_user v x) (with_user u users) ≡ (list_any (λ v. same_user v x) users || same_user u x)
with-any users u x = by (list_any (λ v. same_user v u) users) refl
  where
    tidy : (k : Bool) → (list_any (λ v. same_user v x) users || (k || false)) ≡ (list_any (λ v. same_user v x) users || k)
    tidy true = refl
    tidy false = refl

    listed : (here there : Bool) → same_user u x ≡ here → list_any (λ v. same_user v x) users ≡ there → list_any (λ v. same_user v u) users ≡ true → there ≡ (there || here)
    listed here true is at known = refl
    listed false false is at known = refl
    listed true false is at known =
        let same : u ≡ x = same_user-true u x is in
        let Among : User → Type 0 = λ y. list_any (λ v. same_user v y) users ≡ true in
        absurd (both_ways _ at (subst Among same known))

    by : (b : Bool) → list_any (λ v. same_user v u) users ≡ b → list_any (λ v. same_user v x) (cond b users (users ++ u ∷ [])) ≡ (list_any (λ v. same_user v x) users || same_user u x)
    by true known = listed (same_user u x) (list_any (λ v. same_user v x) users) refl refl known
    by false known = list_any-append (λ v. same_user v x) users (u ∷ []) ∙ tidy (same_user u x)

-- and the next of those that are read
pub any-more : (users : List User) (i : ℕ) (d x : User) → i < length users → list_any (λ v. same_user v x) (take (i + 1) users) ≡ (list_any (λ v. same_user v x) (take i users) || same_user (get_or users i d) x)
any-more users i d x lt =
    ap (list_any (λ v. same_user v x)) (take_more users i d lt) ∙ list_any-append (λ v. same_user v x) (take i users) (get_or users i d ∷ []) ∙ tidy (same_user (get_or users i d) x)
  where
    tidy : (k : Bool) → (list_any (λ v. same_user v x) (take i users) || (k || false)) ≡ (list_any (λ v. same_user v x) (take i users) || k)
    tidy true = refl
    tidy false = refl

-- what is left by a revocation from the same users
pub without-same : (by : User) (atoms : List Atom) (some others : List User) (grants : List Grant) → ((user : User) → list_any (λ v. same_user v user) some ≡ list_any (λ v. same_user v user) others)
    → without by atoms some grants ≡ without by atoms others grants
unfolding names
without-same by atoms some others grants same =
    filter_agree (λ g. not (names by atoms some g)) (λ g. not (names by atoms others g))
    (λ g. ap (λ b. not ((same_user by g.grantor && list_any (λ a. same_atom a g.atom) atoms) && b)) (same g.grantee)) grants

-- whom a revocation of one atom names
pub names-one : (by : User) (atom : Atom) (whom : List User) (g : Grant)
    → names by (atom ∷ []) whom g ≡ ((same_user by g.grantor && same_atom atom g.atom) && list_any (λ u. same_user u g.grantee) whom)
unfolding names
names-one by atom whom g = ap (λ b. (same_user by g.grantor && b) && list_any (λ u. same_user u g.grantee) whom) (tidy (same_atom atom g.atom))
  where
    tidy : (k : Bool) → (k || false) ≡ k
    tidy true = refl
    tidy false = refl

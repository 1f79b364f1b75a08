-- Revocations that take an atom from a user.
use Rattle.std.proofs.Common.{◌≡◌, ⊎_elim, ℕ, ◌<◌, ◌+◌, true, false, not, ◌&&◌, ◌||◌, List, [], ◌∷◌, ◌++◌, length, take, get_or, refl, sym, ap, ◌∙◌, subst}
use Rattle.std.specs.List.{All, AllByRecursion, list_any, fold}
use Rattle.std.proofs.lemmas.Bool.{cases_Bool, and_from, or_left, or_right, or_from, both_ways, false_from_ne_true, cond-true, cond-false}
use Rattle.std.proofs.lemmas.Option.{slice_get_read}
use Rattle.std.proofs.lemmas.List.{take_more}
use Rattle.std.proofs.lemmas.List.Folds.{list_any-append}
use Rattle.std.proofs.lemmas.List.Elements.{All-push, All-same, All-weaker, recursion_from_All}
use Rattle.base_core.specs.Users.{same_user}
use Rattle.base_core.specs.Privileges.{same_atom}
use Rattle.base_core.specs.declared.name.User.{User}
use Rattle.base_core.specs.declared.privilege.Atom.{Atom}
use Rattle.base_core.proofs.SameLemmas.{same_user-refl, same_atom-true, same_atom-refl}
use Rattle.grants_core.specs.declared.grant.Grant.{Grant}
use Rattle.grants_core.specs.declared.grant.Ownership.{Ownership}
use Rattle.grants_core.specs.Owners.{owns}
use Rattle.grants_core.specs.Valid.{kept_with, valid}
use Rattle.grants_core.specs.Content.{gives, has_made, names, without}
use Rattle.explain_core.specs.Losses.{is_of_atom, holds_without, AreAllOf}
use Rattle.explain_core.proofs.ListLemmas.{list_any-at}
use Rattle.explain_core.proofs.CreationLemmas.{owns-once}

-- the next of the grants of an atom
module _ (grants : List Grant) (atom : Atom) (by : User) (place : ℕ) (g : Grant) (within : place < length grants) (is : g ≡ get_or grants place g) where
  pub made_there : All (λ h. is_of_atom atom h ≡ true) grants → same_user g.grantor by ≡ true → has_made grants by g.grantee atom ≡ true
  unfolding gives
  made_there all by_him =
      let of_it : same_atom g.atom atom ≡ true = ap (λ (h : Grant). same_atom h.atom atom) is ∙ all place g within in
      list_any-at (λ h. same_user h.grantor by && gives g.grantee atom h) grants place g (slice_get_read grants (length grants) place g refl within is)
      (and_from (same_user g.grantor by) (gives g.grantee atom g) by_him (and_from (same_atom g.atom atom) (same_user g.grantee g.grantee) of_it (same_user-refl g.grantee)))

  pub all_of_more : (whom more : List User) → ((h : Grant) → list_any (λ v. same_user v h.grantee) whom ≡ true → list_any (λ v. same_user v h.grantee) more ≡ true) → (same_user g.grantor by ≡ true → list_any (λ v. same_user v g.grantee) more ≡ true) → AreAllOf by (take place grants) whom → AreAllOf by (take (place + 1) grants) more
  all_of_more whom more grown here before =
      let Listed : Grant → Type 0 = λ h. same_user h.grantor by ≡ true → list_any (λ v. same_user v h.grantee) more ≡ true in
      All-same Listed (take (place + 1) grants) (take place grants ++ g ∷ []) (take_more grants place g within ∙ ap (λ h. take place grants ++ h ∷ []) (sym is))
      (All-push Listed (take place grants) g (All-weaker (λ h. same_user h.grantor by ≡ true → list_any (λ v. same_user v h.grantee) whom ≡ true) Listed (λ h old by_him. grown h (old by_him)) (take place grants) before) here)

pub listed-push : (whom : List User) (u : User) (h : Grant) → list_any (λ v. same_user v h.grantee) whom ≡ true → list_any (λ v. same_user v h.grantee) (whom ++ u ∷ []) ≡ true
listed-push whom u h old = list_any-append (λ v. same_user v h.grantee) whom (u ∷ []) ∙ or_left _ _ old

pub listed-pushed : (whom : List User) (h : Grant) → list_any (λ v. same_user v h.grantee) (whom ++ h.grantee ∷ []) ≡ true
listed-pushed whom h = list_any-append (λ v. same_user v h.grantee) whom (h.grantee ∷ []) ∙ or_right (list_any (λ v. same_user v h.grantee) whom) _ (or_left (same_user h.grantee h.grantee) false (same_user-refl h.grantee))

-- grants of which none is by the owner
nothing_valid : (o : List Ownership) (gs : List Grant) → AllByRecursion (λ g. owns o g.grantor g.atom ≡ false) gs → valid o gs ≡ []
nothing_valid o [] none = refl
nothing_valid o (g ∷ gs) none =
    ap (λ k. fold (kept_with o) k gs) (cond-false (owns o g.grantor g.atom || false) (g ∷ []) [] (or_from (owns o g.grantor g.atom) false none.0 refl)) ∙ nothing_valid o gs none.1

-- what the owner leaves who revokes from all to whom he granted
module _ (o : List Ownership) (atom : Atom) (by : User) (whom : List User) (owned : owns o by atom ≡ true) where
  unnamed_unowned : (g : Grant) → is_of_atom atom g ≡ true → (same_user g.grantor by ≡ true → list_any (λ v. same_user v g.grantee) whom ≡ true) → names by (atom ∷ []) whom g ≡ false → owns o g.grantor g.atom ≡ false
  unfolding names
  unnamed_unowned g of_it listed unnamed =
      false_from_ne_true (owns o g.grantor g.atom)
      (λ his.
      let same_of : g.atom ≡ atom = same_atom-true g.atom atom of_it in
      let Owns : Atom → Type 0 = λ a. owns o g.grantor a ≡ true in
      let same_by : by ≡ g.grantor = owns-once o by g.grantor atom owned (subst Owns same_of his) in
      let Same : User → Type 0 = λ u. same_user u by ≡ true in
      let SameBy : User → Type 0 = λ u. same_user by u ≡ true in
      let SameOf : Atom → Type 0 = λ a. same_atom atom a ≡ true in
      both_ways (names by (atom ∷ []) whom g) unnamed
      (and_from (same_user by g.grantor && (same_atom atom g.atom || false)) (list_any (λ u. same_user u g.grantee) whom)
      (and_from (same_user by g.grantor) (same_atom atom g.atom || false) (subst SameBy same_by (same_user-refl by)) (or_left (same_atom atom g.atom) false (subst SameOf (sym same_of) (same_atom-refl atom))))
      (listed (subst Same same_by (same_user-refl by)))))

  all_unowned : (gs : List Grant) → AllByRecursion (λ g. is_of_atom atom g ≡ true) gs → AllByRecursion (λ g. same_user g.grantor by ≡ true → list_any (λ v. same_user v g.grantee) whom ≡ true) gs → AllByRecursion (λ g. owns o g.grantor g.atom ≡ false) (without by (atom ∷ []) whom gs)
  all_unowned [] of_it listed = tt
  all_unowned (g ∷ gs) of_it listed =
      let rest : List Grant = without by (atom ∷ []) whom gs in
      let Unowned : List Grant → Type 0 = λ k. AllByRecursion (λ h. owns o h.grantor h.atom ≡ false) k in
      let later = all_unowned gs of_it.1 listed.1 in
      ⊎_elim
      (λ (named : names by (atom ∷ []) whom g ≡ true). subst Unowned (sym (cond-false (not (names by (atom ∷ []) whom g)) (g ∷ rest) rest (ap not named))) later)
      (λ (unnamed : names by (atom ∷ []) whom g ≡ false).
      subst Unowned (sym (cond-true (not (names by (atom ∷ []) whom g)) (g ∷ rest) rest (ap not unnamed))) (unnamed_unowned g of_it.0 listed.0 unnamed, later))
      (cases_Bool (names by (atom ∷ []) whom g))

  -- **it leaves no grant of the atom**
  pub owner-leaves_none : (grants : List Grant) (user : User) → All (λ g. is_of_atom atom g ≡ true) grants → AreAllOf by grants whom → holds_without o grants atom user by whom ≡ false
  owner-leaves_none grants user of_it listed =
      ap (list_any (gives user atom))
      (nothing_valid o (without by (atom ∷ []) whom grants)
      (all_unowned grants (recursion_from_All (λ g. is_of_atom atom g ≡ true) grants of_it) (recursion_from_All (λ g. same_user g.grantor by ≡ true → list_any (λ v. same_user v g.grantee) whom ≡ true) grants listed)))

-- **so who still holds the atom then, not by the owner's revocation**
pub unowned-holds : (o : List Ownership) (grants : List Grant) (atom : Atom) (user by : User) (whom : List User) → All (λ g. is_of_atom atom g ≡ true) grants → AreAllOf by grants whom → holds_without o grants atom user by whom ≡ true → owns o by atom ≡ false
unowned-holds o grants atom user by whom of_it listed holds =
    false_from_ne_true (owns o by atom) (λ owned. both_ways (holds_without o grants atom user by whom) (owner-leaves_none o atom by whom owned grants user of_it listed) holds)

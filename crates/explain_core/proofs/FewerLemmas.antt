-- Revocations from fewer users leave more.
use Rattle.std.proofs.Common.{◌≡◌, ⊎_elim, Bool, true, false, not, ◌&&◌, ◌||◌, cond, List, [], ◌∷◌, ◌++◌, refl, sym, ap, ◌∙◌, subst}
use Rattle.std.specs.List.{AllByRecursion, list_any, filter, fold}
use Rattle.std.proofs.lemmas.Bool.{cases_Bool, and_parts, and_from, or_cases, or_left, or_right, both_ways, cond-true, cond-false}
use Rattle.std.proofs.lemmas.List.Folds.{list_any-append}
use Rattle.std.proofs.lemmas.List.Elements.{recursion_from_All}
use Rattle.base_core.specs.Users.{same_user}
use Rattle.base_core.specs.Privileges.{same_atom}
use Rattle.base_core.specs.declared.name.User.{User}
use Rattle.base_core.specs.declared.privilege.Atom.{Atom}
use Rattle.base_core.proofs.SameLemmas.{same_user-refl, same_user-true}
use Rattle.grants_core.specs.declared.grant.Grant.{Grant}
use Rattle.grants_core.specs.declared.grant.Ownership.{Ownership}
use Rattle.grants_core.specs.Owners.{owns}
use Rattle.grants_core.specs.Valid.{supports, is_supported, kept_with}
use Rattle.grants_core.specs.Content.{gives, names}
use Rattle.explain_core.specs.Losses.{holds_without, HoldsAgainst, AreAllOf}

-- a test that a grant of the first list passes, one of the second passes
abbrev pub Within : List Grant → List Grant → Type 0
Within xs ys = (test : Grant → Bool) → list_any test xs ≡ true → list_any test ys ≡ true

within-push : (xs ys : List Grant) (g : Grant) → Within xs ys → Within (xs ++ g ∷ []) (ys ++ g ∷ [])
within-push xs ys g within test h =
    let one : (list_any test xs || list_any test (g ∷ [])) ≡ true = sym (list_any-append test xs (g ∷ [])) ∙ h in
    list_any-append test ys (g ∷ [])
    ∙ ⊎_elim
    (λ (old : list_any test xs ≡ true). or_left (list_any test ys) (list_any test (g ∷ [])) (within test old))
    (λ (new : list_any test (g ∷ []) ≡ true). or_right (list_any test ys) (list_any test (g ∷ [])) new)
    (or_cases (list_any test xs) (list_any test (g ∷ [])) one)

-- what is kept of one grant more
module _ (o : List Ownership) (xs ys : List Grant) (g : Grant) (within : Within xs ys) where
  within-grown : Within xs (kept_with o ys g)
  within-grown =
      elim (is_supported o ys g) as (λ b. Within xs (cond b (ys ++ g ∷ []) ys)) [
        | true ↦ λ test h. list_any-append test ys (g ∷ []) ∙ or_left (list_any test ys) (list_any test (g ∷ [])) (within test h)
        | false ↦ within
      ]

  supported-within : is_supported o xs g ≡ true → is_supported o ys g ≡ true
  supported-within h =
      ⊎_elim
      (λ (owned : owns o g.grantor g.atom ≡ true). or_left (owns o g.grantor g.atom) (list_any (λ k. supports k g) ys) owned)
      (λ (by_one : list_any (λ k. supports k g) xs ≡ true). or_right (owns o g.grantor g.atom) (list_any (λ k. supports k g) ys) (within (λ k. supports k g) by_one))
      (or_cases (owns o g.grantor g.atom) (list_any (λ k. supports k g) xs) h)

  within-kept : Within (kept_with o xs g) (kept_with o ys g)
  within-kept =
      let From : List Grant → Type 0 = λ k. Within k (kept_with o ys g) in
      let Into : List Grant → Type 0 = λ k. Within (xs ++ g ∷ []) k in
      ⊎_elim
      (λ (supported : is_supported o xs g ≡ true).
      subst From (sym (cond-true (is_supported o xs g) (xs ++ g ∷ []) xs supported))
      (subst Into (sym (cond-true (is_supported o ys g) (ys ++ g ∷ []) ys (supported-within supported))) (within-push xs ys g within)))
      (λ (unsupported : is_supported o xs g ≡ false).
      subst From (sym (cond-false (is_supported o xs g) (xs ++ g ∷ []) xs unsupported)) within-grown)
      (cases_Bool (is_supported o xs g))

-- of grants that pass a narrower test no more are valid
module _ (o : List Ownership) (p q : Grant → Bool) where
  fold-within : (gs : List Grant) → AllByRecursion (λ g. p g ≡ true → q g ≡ true) gs → (xs ys : List Grant) → Within xs ys → Within (fold (kept_with o) xs (filter p gs)) (fold (kept_with o) ys (filter q gs))
  fold-within [] passes xs ys within = within
  fold-within (g ∷ gs) passes xs ys within =
      let ps : List Grant = filter p gs in
      let qs : List Grant = filter q gs in
      let From : List Grant → List Grant → Type 0 = λ k l. Within (fold (kept_with o) xs k) (fold (kept_with o) ys l) in
      let FromP : List Grant → Type 0 = λ k. From k (filter q (g ∷ gs)) in
      let both : p g ≡ true → From (g ∷ ps) (filter q (g ∷ gs)) = λ here.
      let IntoQ : List Grant → Type 0 = λ l. From (g ∷ ps) l in
      subst IntoQ (sym (cond-true (q g) (g ∷ qs) qs (passes.0 here)))
      (fold-within gs passes.1 (kept_with o xs g) (kept_with o ys g) (within-kept o xs ys g within)) in
      let IntoQ : List Grant → Type 0 = λ l. From ps l in
      let without : From ps (filter q (g ∷ gs)) =
      ⊎_elim
      (λ (there : q g ≡ true). subst IntoQ (sym (cond-true (q g) (g ∷ qs) qs there)) (fold-within gs passes.1 xs (kept_with o ys g) (within-grown o xs ys g within)))
      (λ (nowhere : q g ≡ false). subst IntoQ (sym (cond-false (q g) (g ∷ qs) qs nowhere)) (fold-within gs passes.1 xs ys within))
      (cases_Bool (q g)) in
      ⊎_elim
      (λ (here : p g ≡ true). subst FromP (sym (cond-true (p g) (g ∷ ps) ps here)) (both here))
      (λ (gone : p g ≡ false). subst FromP (sym (cond-false (p g) (g ∷ ps) ps gone)) without)
      (cases_Bool (p g))

not_true : (b : Bool) → not b ≡ true → b ≡ false
not_true true h = absurd (both_ways (not true) refl h)
not_true false h = refl

-- **who holds the atom without more of these grants holds it without fewer**
pub holds-fewer : (o : List Ownership) (grants : List Grant) (atom : Atom) (user by : User) (fewer more : List User) → AllByRecursion (λ g. names by (atom ∷ []) fewer g ≡ true → names by (atom ∷ []) more g ≡ true) grants → holds_without o grants atom user by more ≡ true → holds_without o grants atom user by fewer ≡ true
holds-fewer o grants atom user by fewer more named holds =
    fold-within o (λ g. not (names by (atom ∷ []) more g)) (λ g. not (names by (atom ∷ []) fewer g)) grants (unnamed grants named) [] [] (λ test h. h) (gives user atom) holds
  where
    unnamed : (gs : List Grant) → AllByRecursion (λ g. names by (atom ∷ []) fewer g ≡ true → names by (atom ∷ []) more g ≡ true) gs → AllByRecursion (λ g. not (names by (atom ∷ []) more g) ≡ true → not (names by (atom ∷ []) fewer g) ≡ true) gs
    unnamed [] all = tt
    unnamed (g ∷ gs) all = (
      (λ not_more.
          ⊎_elim
          (λ (named : names by (atom ∷ []) fewer g ≡ true). absurd (both_ways (names by (atom ∷ []) more g) (not_true (names by (atom ∷ []) more g) not_more) (all.0 named)))
          (λ (spared : names by (atom ∷ []) fewer g ≡ false). ap not spared)
          (cases_Bool (names by (atom ∷ []) fewer g))),
      unnamed gs all.1,
    )

-- fewer users are named in fewer grants
pub names-fewer : (by : User) (atoms : List Atom) (fewer more : List User) (g : Grant) → (list_any (λ u. same_user u g.grantee) fewer ≡ true → list_any (λ u. same_user u g.grantee) more ≡ true) → names by atoms fewer g ≡ true → names by atoms more g ≡ true
unfolding names
names-fewer by atoms fewer more g listed named =
    let ours : Bool = same_user by g.grantor && list_any (λ a. same_atom a g.atom) atoms in
    let parts = and_parts ours (list_any (λ u. same_user u g.grantee) fewer) named in
    and_from ours (list_any (λ u. same_user u g.grantee) more) parts.0 (listed parts.1)

-- who revokes it made the grant that is named
named-by : (by : User) (atoms : List Atom) (whom : List User) (g : Grant) → names by atoms whom g ≡ true → same_user g.grantor by ≡ true
unfolding names
named-by by atoms whom g named =
    let ours : Bool = same_user by g.grantor && list_any (λ a. same_atom a g.atom) atoms in
    let parts = and_parts ours (list_any (λ u. same_user u g.grantee) whom) named in
    let by_him = and_parts (same_user by g.grantor) (list_any (λ a. same_atom a g.atom) atoms) parts.0 in
    let Same : User → Type 0 = λ u. same_user u by ≡ true in
    subst Same (same_user-true by g.grantor by_him.0) (same_user-refl by)

-- **who holds the atom though this user has revoked it from all to whom he granted it, holds it from whomever he revokes it**
pub holds-against : (o : List Ownership) (grants : List Grant) (atom : Atom) (user by : User) (all : List User) → AreAllOf by grants all → holds_without o grants atom user by all ≡ true → HoldsAgainst o grants atom user by
holds-against o grants atom user by all listed holds whom =
    holds-fewer o grants atom user by whom all (named grants (recursion_from_All (λ g. same_user g.grantor by ≡ true → list_any (λ v. same_user v g.grantee) all ≡ true) grants listed)) holds
  where
    named : (gs : List Grant) → AllByRecursion (λ g. same_user g.grantor by ≡ true → list_any (λ v. same_user v g.grantee) all ≡ true) gs → AllByRecursion (λ g. names by (atom ∷ []) whom g ≡ true → names by (atom ∷ []) all g ≡ true) gs
    named [] is = tt
    named (g ∷ gs) is = ((λ by_this. names-fewer by (atom ∷ []) whom all g (λ there. is.0 (named-by by (atom ∷ []) whom g by_this)) by_this), named gs is.1)

-- From what is left of the grants of one atom to what is in force.
use Rattle.std.proofs.Common.{◌≡◌, ⊎_elim, true, false, not, ◌&&◌, ◌||◌, cond, List, [], ◌∷◌, ◌++◌, Option, Some, None, refl, sym, ap, ◌∙◌, subst}
use Rattle.std.specs.List.{All, AllByRecursion, Contains, list_any, filter, fold}
use Rattle.std.proofs.lemmas.Bool.{cases_Bool, and_parts, or_right, both_ways, cond-true, cond-false}
use Rattle.std.proofs.lemmas.List.{append-nil}
use Rattle.std.proofs.lemmas.List.Elements.{All-weaker, All-contains, All-head, Contains-push, filter-append, filter_passes, All-from_recursion}
use Rattle.base_core.specs.Users.{same_user}
use Rattle.base_core.specs.Privileges.{same_atom}
use Rattle.base_core.specs.declared.name.User.{User}
use Rattle.base_core.specs.declared.privilege.Atom.{Atom}
use Rattle.base_core.proofs.SameLemmas.{same_atom-true}
use Rattle.grants_core.specs.declared.grant.Grant.{Grant}
use Rattle.grants_core.specs.declared.grant.Ownership.{Ownership}
use Rattle.grants_core.specs.declared.grant.Change.{Change}
use Rattle.grants_core.specs.declared.grant.Change.TheVariants as change
use Rattle.grants_core.specs.Owners.{owns}
use Rattle.grants_core.specs.Valid.{supports, is_supported, kept_with, valid}
use Rattle.grants_core.specs.Content.{gives, has_made, names, without}
use Rattle.grants_core.specs.History.{in_force_after, owners_after}
use Rattle.grants_core.proofs.HistoryLemmas.{owners-more, in_force-revoke}
use Rattle.explain_core.specs.declared.cut.Cut.{Cut}
use Rattle.explain_core.specs.Chains.{holds_after, EachSupportsNext, IsChain}
use Rattle.explain_core.specs.Cuts.{TakesPrivilege, IsCut, with_revoked, CannotTake}
use Rattle.explain_core.specs.Losses.{is_of_atom, holds_without, others_than, HoldsAgainst, IsLossAlong}
use Rattle.explain_core.proofs.ListLemmas.{filter_swap, list_any-filtered, Contains-any}

supports-same : (h g : Grant) → supports h g ≡ true → h.atom ≡ g.atom
unfolding supports
supports-same h g s =
    let three = and_parts (h.option && same_atom h.atom g.atom && same_user h.grantee g.grantor) _ s in
    let two = and_parts (h.option && same_atom h.atom g.atom) (same_user h.grantee g.grantor) three.0 in
    same_atom-true h.atom g.atom (and_parts h.option (same_atom h.atom g.atom) two.0).1

-- a grant is supported by grants of its atom alone
module _ (atom : Atom) where
  supports-of : (h g : Grant) → is_of_atom atom g ≡ true → supports h g ≡ true → is_of_atom atom h ≡ true
  supports-of h g of_it s = ap (λ a. same_atom a atom) (supports-same h g s) ∙ of_it

  supported-of : (o : List Ownership) (kept : List Grant) (g : Grant) → is_of_atom atom g ≡ true → is_supported o (filter (is_of_atom atom) kept) g ≡ is_supported o kept g
  supported-of o kept g of_it =
      ap (λ b. owns o g.grantor g.atom || b) (list_any-filtered (λ h. supports h g) (is_of_atom atom) kept (λ h s. supports-of h g of_it s))

  kept_with-of : (o : List Ownership) (kept : List Grant) (g : Grant) → filter (is_of_atom atom) (kept_with o kept g) ≡ cond (is_of_atom atom g) (kept_with o (filter (is_of_atom atom) kept) g) (filter (is_of_atom atom) kept)
  kept_with-of o kept g =
      let old : List Grant = filter (is_of_atom atom) kept in
      let split : filter (is_of_atom atom) (kept ++ g ∷ []) ≡ old ++ cond (is_of_atom atom g) (g ∷ []) [] = filter-append (is_of_atom atom) kept (g ∷ []) in
      ⊎_elim
      (λ (of_it : is_of_atom atom g ≡ true).
      let added : filter (is_of_atom atom) (kept ++ g ∷ []) ≡ old ++ g ∷ [] = split ∙ ap (λ k. old ++ k) (cond-true (is_of_atom atom g) (g ∷ []) [] of_it) in
      let one : filter (is_of_atom atom) (kept_with o kept g) ≡ cond (is_supported o kept g) (old ++ g ∷ []) old =
      elim (is_supported o kept g) as (λ b. filter (is_of_atom atom) (cond b (kept ++ g ∷ []) kept) ≡ cond b (old ++ g ∷ []) old) [ true ↦ added | false ↦ refl ] in
      one ∙ ap (λ b. cond b (old ++ g ∷ []) old) (sym (supported-of o kept g of_it)) ∙ sym (cond-true (is_of_atom atom g) (kept_with o old g) old of_it))
      (λ (of_other : is_of_atom atom g ≡ false).
      let added : filter (is_of_atom atom) (kept ++ g ∷ []) ≡ old = split ∙ ap (λ k. old ++ k) (cond-false (is_of_atom atom g) (g ∷ []) [] of_other) ∙ append-nil old in
      let one : filter (is_of_atom atom) (kept_with o kept g) ≡ old =
      elim (is_supported o kept g) as (λ b. filter (is_of_atom atom) (cond b (kept ++ g ∷ []) kept) ≡ old) [ true ↦ added | false ↦ refl ] in
      one ∙ sym (cond-false (is_of_atom atom g) (kept_with o old g) old of_other))
      (cases_Bool (is_of_atom atom g))

  fold-of : (o : List Ownership) (kept grants : List Grant) → filter (is_of_atom atom) (fold (kept_with o) kept grants) ≡ fold (kept_with o) (filter (is_of_atom atom) kept) (filter (is_of_atom atom) grants)
  fold-of o kept [] = refl
  fold-of o kept (g ∷ gs) =
      let old : List Grant = filter (is_of_atom atom) kept in
      let rest : List Grant = filter (is_of_atom atom) gs in
      let last : fold (kept_with o) (cond (is_of_atom atom g) (kept_with o old g) old) rest ≡ fold (kept_with o) old (cond (is_of_atom atom g) (g ∷ rest) rest) =
      elim (is_of_atom atom g) as (λ b. fold (kept_with o) (cond b (kept_with o old g) old) rest ≡ fold (kept_with o) old (cond b (g ∷ rest) rest)) [ true ↦ refl | false ↦ refl ] in
      fold-of o (kept_with o kept g) gs ∙ ap (λ k. fold (kept_with o) k rest) (kept_with-of o kept g) ∙ last

  -- **the valid grants of an atom are valid by those of it alone**
  pub valid-of : (o : List Ownership) (grants : List Grant) → filter (is_of_atom atom) (valid o grants) ≡ valid o (filter (is_of_atom atom) grants)
  valid-of o grants = fold-of o [] grants

gives-of : (user : User) (atom : Atom) (g : Grant) → gives user atom g ≡ true → is_of_atom atom g ≡ true
unfolding gives
gives-of user atom g h = (and_parts (same_atom g.atom atom) (same_user g.grantee user) h).0

-- a chain is of one atom
linked-of : (first : Grant) (more : List Grant) → EachSupportsNext (first ∷ more) → AllByRecursion (λ g. first.atom ≡ g.atom) (first ∷ more)
linked-of first [] linked = (refl, tt)
linked-of first (h ∷ more) linked =
    let same : first.atom ≡ h.atom = supports-same first h linked.0 in
    (refl, lift h.atom same (h ∷ more) (linked-of h more linked.1))
  where
    lift : (a : Atom) → first.atom ≡ a → (gs : List Grant) → AllByRecursion (λ g. a ≡ g.atom) gs → AllByRecursion (λ g. first.atom ≡ g.atom) gs
    lift a same [] is = tt
    lift a same (g ∷ gs) is = (same ∙ is.0, lift a same gs is.1)

-- **once this user has revoked the atom from these, who does not own the table holds it by the grants of it that are left**
holds-revoked : (changes : List Change) (user : User) (atom : Atom) (by : User) (whom : List User) → owns (owners_after changes) user atom ≡ false → holds_after (with_revoked changes by atom whom) user atom ≡ holds_without (owners_after changes) (filter (is_of_atom atom) (in_force_after changes)) atom user by whom
holds-revoked changes user atom by whom unowned =
    let o : List Ownership = owners_after changes in
    let old : List Grant = in_force_after changes in
    let atoms : List Atom = atom ∷ [] in
    let c : Change = change.Revoke by atoms whom in
    ap (λ b. b || list_any (gives user atom) (in_force_after (changes ++ c ∷ []))) (ap (λ k. owns k user atom) (owners-more changes c) ∙ unowned)
    ∙ ap (list_any (gives user atom)) (in_force-revoke changes by atoms whom)
    ∙ sym (list_any-filtered (gives user atom) (is_of_atom atom) (valid o (without by atoms whom old)) (gives-of user atom))
    ∙ ap (list_any (gives user atom)) (valid-of atom o (without by atoms whom old)
    ∙ ap (valid o) (filter_swap (is_of_atom atom) (λ g. not (names by atoms whom g)) old))

module _ (changes : List Change) (user : User) (atom : Atom) (chain : List Grant) (last : Grant) (gives_it : gives user atom last ≡ true) (is : IsChain changes chain last) where
  -- so its first grant is by the owner of the atom's table
  pub chain-owned : All (λ g. owns (owners_after changes) g.grantor atom ≡ false) chain → ⊥
  chain-owned none =
      let (first, more, begins, owned) = is.begins in
      let (front, ends) = is.ends in
      let OneAtom : List Grant → Type 0 = λ k. AllByRecursion (λ g. first.atom ≡ g.atom) k in
      let Linked : List Grant → Type 0 = λ k. EachSupportsNext k in
      let Unowned : List Grant → Type 0 = λ k. All (λ g. owns (owners_after changes) g.grantor atom ≡ false) k in
      let one : OneAtom (front ++ last ∷ []) = subst OneAtom (sym begins ∙ ends) (linked-of first more (subst Linked begins is.linked)) in
      let same : first.atom ≡ last.atom = All-contains (λ g. first.atom ≡ g.atom) (front ++ last ∷ []) last (All-from_recursion (λ g. first.atom ≡ g.atom) (front ++ last ∷ []) one) (Contains-push front last) in
      let of_it : last.atom ≡ atom = same_atom-true last.atom atom (gives-of user atom last gives_it) in
      both_ways (owns (owners_after changes) first.grantor atom)
      (All-head (λ g. owns (owners_after changes) g.grantor atom ≡ false) first more (subst Unowned begins none))
      (ap (owns (owners_after changes) first.grantor) (sym (same ∙ of_it)) ∙ owned)

  -- the user holds the atom by its last
  pub chain-holds : holds_after changes user atom ≡ true
  chain-holds =
      let (front, ends) = is.ends in
      let InForce : List Grant → Type 0 = λ k. All (λ g. Contains (in_force_after changes) g) k in
      or_right (owns (owners_after changes) user atom) (list_any (gives user atom) (in_force_after changes))
      (Contains-any (gives user atom) (in_force_after changes) last
      (All-contains (λ g. Contains (in_force_after changes) g) (front ++ last ∷ []) last (subst InForce ends is.in_force) (Contains-push front last)) gives_it)

  -- **what takes the grants of the atom from him takes the atom**
  pub takes-loss : (cut : Cut) → owns (owners_after changes) user atom ≡ false → IsLossAlong (owners_after changes) (filter (is_of_atom atom) (in_force_after changes)) atom user chain (Some cut) → TakesPrivilege changes user atom cut
  takes-loss cut unowned along =
      let o : List Ownership = owners_after changes in
      let old : List Grant = in_force_after changes in
      let whom : List User = cut.whom.items in
      let loss = along.0 in
      let Chained : List Grant → Type 0 = λ k. IsChain changes k last in
      let Fewer : User → Type 0 = λ v. holds_without o (filter (is_of_atom atom) old) atom user cut.by (others_than v whom) ≡ true in
      let Against : Grant → Type 0 = λ h. HoldsAgainst o (filter (is_of_atom atom) old) atom user h.grantor in
      record {
        held = chain-holds;
        made = All-weaker (λ v. has_made (filter (is_of_atom atom) old) cut.by v atom ≡ true) (λ v. has_made old cut.by v atom ≡ true)
            (λ v made. sym (list_any-filtered (λ g. same_user g.grantor cut.by && gives v atom g) (is_of_atom atom) old (λ g h. gives-of v atom g (and_parts (same_user g.grantor cut.by) (gives v atom g) h).1)) ∙ made)
            whom loss.made;
        lost = holds-revoked changes user atom cut.by whom unowned ∙ loss.lost;
        needed = All-weaker Fewer (λ v. holds_after (with_revoked changes cut.by atom (others_than v whom)) user atom ≡ true) (λ v holds. holds-revoked changes user atom cut.by (others_than v whom) unowned ∙ holds) whom along.1;
        nearest = (along.2, along.3, along.4, last, subst Chained along.5 is, gives_it, sym along.6, All-weaker Against (λ h. CannotTake changes user atom h.grantor) (λ h holds users. holds-revoked changes user atom h.grantor users unowned ∙ holds users) along.4 along.7);
      }

-- the grants of an atom are of it
pub of_it : (atom : Atom) (gs : List Grant) → All (λ g. is_of_atom atom g ≡ true) (filter (is_of_atom atom) gs)
of_it atom gs = filter_passes (is_of_atom atom) gs

-- **a revocation along a chain to the user is a cut, and there is one**
pub cut_along : (changes : List Change) (user : User) (atom : Atom) (chain : List Grant) → (owns (owners_after changes) user atom ≡ false) × (last : Grant) × (gives user atom last ≡ true) × IsChain changes chain last → (cut : Option Cut) → IsLossAlong (owners_after changes) (filter (is_of_atom atom) (in_force_after changes)) atom user chain cut → IsCut changes user atom cut
cut_along changes user atom chain why (Some cut) loss = takes-loss changes user atom chain why.1 why.2 why.3 cut why.0 loss
cut_along changes user atom chain why None none = absurd (chain-owned changes user atom chain why.1 why.2 why.3 none)

-- The grants of one statement: what lets their grantor make one lets him make it after those before the statement.
use Rattle.std.proofs.Common.{◌≡◌, ◌<◌, ◌≤◌, Bool, true, false, ◌&&◌, subst, List, [], ◌∷◌, ◌++◌, refl, sym, ap, ◌∙◌, append_assoc, append-nil, arith, ⊎_elim}
use Rattle.std.specs.List.{AllByRecursion, list_any}
use Rattle.std.proofs.lemmas.Bool.{both_ways, false_from_ne_true, or_from, or_cases, or_left, or_right, and_parts}
use Rattle.std.proofs.lemmas.List.Folds.{list_any-append}
use Rattle.base_core.specs.Users.{same_user}
use Rattle.base_core.specs.Privileges.{same_atom}
use Rattle.base_core.specs.declared.name.User.{User}
use Rattle.base_core.specs.declared.privilege.Atom.{Atom}
use Rattle.base_core.proofs.SameLemmas.{same_atom-true}
use Rattle.grants_core.specs.declared.grant.Grant.{Grant}
use Rattle.grants_core.specs.declared.grant.Ownership.{Ownership}
use Rattle.grants_core.specs.Owners.{owns}
use Rattle.grants_core.specs.Valid.{supports, is_supported}
use Rattle.grants_core.specs.Content.{gives, may_grant}
use Rattle.grants_core.proofs.OwnersLemmas.{AllByRecursion-append}
use Rattle.grants_core.proofs.ValidLemmas.{supports-later, supported-append_cases}
use Rattle.dump_core.proofs.InTurn.{Follows, AreInTurn, may-from_supported}

-- ---- a grant that the others support is supported by those before it
none_later : (g : Grant) (later : List Grant) → AllByRecursion (Follows g) later → list_any (λ h. supports h g) later ≡ false
none_later g [] t = refl
none_later g (h ∷ hs) t =
    or_from _ _ (false_from_ne_true _ (λ e. let lt : h.moment.0 < g.moment.0 = supports-later h g e in let le : g.moment.0 ≤ h.moment.0 = t.0.0 in omega arith)) (none_later g hs t.1)

turn-at : (before : List Grant) (g : Grant) (after : List Grant) → AreInTurn (before ++ g ∷ after) → AllByRecursion (Follows g) after
turn-at [] g after t = t.0
turn-at (x ∷ before) g after t = turn-at before g after t.1

may-before : (o : List Ownership) (before : List Grant) (g : Grant) (after : List Grant) → AreInTurn (before ++ g ∷ after) → is_supported o (before ++ g ∷ after) g ≡ true → may_grant o before g.grantor g.atom ≡ true
may-before o before g after t s =
    ⊎_elim (λ (left : is_supported o before g ≡ true). may-from_supported o before g left)
    (λ (right : list_any (λ k. supports k g) (g ∷ after) ≡ true).
    let self : Follows g g = (omega arith, λ e. refl) in
    absurd (both_ways _ (none_later g (g ∷ after) (self, turn-at before g after t)) right))
    (supported-append_cases o before (g ∷ after) g s)

-- ---- one that those before the statement, or in it so far, let him make is one that those before it do
-- whether the grant lets the user grant the atom
abbrev lets : User → Atom → Grant → Bool
lets by atom h = h.option && gives by atom h

let_of : (by : User) (atom : Atom) (h : Grant) → lets by atom h ≡ true → h.atom ≡ atom
unfolding gives
let_of by atom h m = same_atom-true h.atom atom (and_parts (same_atom h.atom atom) (same_user h.grantee by) (and_parts h.option _ m).1).0

module _ (o : List Ownership) (before : List Grant) (by : User) where
  -- those before it let him grant the atom
  abbrev May : Atom → Type 0
  May atom = may_grant o before by atom ≡ true

  among : (atom : Atom) (done : List Grant) → AllByRecursion (λ h. May h.atom) done → list_any (lets by atom) done ≡ true → May atom
  among atom [] each here = cc
  among atom (h ∷ hs) each here =
      ⊎_elim (λ (this : lets by atom h ≡ true). subst May (let_of by atom h this) each.0)
      (λ (later : list_any (lets by atom) hs ≡ true). among atom hs each.1 later)
      (or_cases _ _ here)

  within : (atom : Atom) (done : List Grant) → AllByRecursion (λ h. May h.atom) done → may_grant o (before ++ done) by atom ≡ true → May atom
  within atom done each m =
      ⊎_elim (λ (own : owns o by atom ≡ true). or_left _ _ own)
      (λ (some : list_any (lets by atom) (before ++ done) ≡ true).
      ⊎_elim (λ (there : list_any (lets by atom) before ≡ true). or_right _ _ there)
      (λ (here : list_any (lets by atom) done ≡ true). among atom done each here)
      (or_cases _ _ (sym (list_any-append (lets by atom) before done) ∙ some)))
      (or_cases _ _ m)

  along : (done rest after whole : List Grant) → (before ++ done) ++ (rest ++ after) ≡ whole → AreInTurn whole → AllByRecursion (λ h. May h.atom) done
      → AllByRecursion (λ g. g.grantor ≡ by) rest → AllByRecursion (λ g. is_supported o whole g ≡ true) rest → AllByRecursion (λ g. May g.atom) rest
  along done [] after whole e turn each by_him s = tt
  along done (g ∷ rest) after whole e turn each by_him s =
      let Turn : List Grant → Type 0 = AreInTurn in
      let Supported : List Grant → Type 0 = λ k. is_supported o k g ≡ true in
      let By : User → Type 0 = λ u. may_grant o (before ++ done) u g.atom ≡ true in
      let so_far : may_grant o (before ++ done) g.grantor g.atom ≡ true = may-before o (before ++ done) g (rest ++ after) (subst Turn (sym e) turn) (subst Supported (sym e) s.0) in
      let here : May g.atom = within g.atom done each (subst By by_him.0 so_far) in
      let next : (before ++ (done ++ g ∷ [])) ++ (rest ++ after) ≡ whole = ap (λ k. k ++ (rest ++ after)) (sym (append_assoc before done (g ∷ []))) ∙ append_assoc (before ++ done) (g ∷ []) (rest ++ after) ∙ e in
      (here, along (done ++ g ∷ []) rest after whole next turn (AllByRecursion-append (λ h. May h.atom) done (g ∷ []) each (here, tt)) by_him.1 s.1)

  -- **those before it let him make each of its grants**
  pub may-all : (grants after whole : List Grant) → before ++ (grants ++ after) ≡ whole → AreInTurn whole → AllByRecursion (λ g. g.grantor ≡ by) grants → AllByRecursion (λ g. is_supported o whole g ≡ true) grants → AllByRecursion (λ g. May g.atom) grants
  may-all grants after whole e turn by_him s = along [] grants after whole (ap (λ k. k ++ (grants ++ after)) (append-nil before) ∙ e) turn tt by_him s

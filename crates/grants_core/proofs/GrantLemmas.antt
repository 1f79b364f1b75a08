-- What a grant of atoms to users makes is supported, and what holds of each grant.
use Rattle.std.proofs.Common.{◌≡◌, ℕ, ◌<◌, Bool, true, false, cond, List, [], ◌∷◌, ◌++◌, sym, subst}
use Rattle.std.specs.List.{AllByRecursion, fold, filter}
use Rattle.base_core.specs.declared.name.User.{User}
use Rattle.base_core.specs.declared.privilege.Atom.{Atom}
use Rattle.base_core.specs.declared.value.Moment.{Moment}
use Rattle.grants_core.specs.Valid.{is_supported, kept_with, valid, AreSupported}
use Rattle.grants_core.specs.Content.{may_grant, singles}
use Rattle.grants_core.specs.declared.grant.Grant.{Grant}
use Rattle.grants_core.specs.declared.grant.Ownership.{Ownership}
use Rattle.grants_core.proofs.OwnersLemmas.{AllByRecursion-append, singles-all, supported-from_may}

pub All-implied : (P Q : Grant → Type 0) (xs : List Grant) → ((g : Grant) → P g → Q g) → AllByRecursion P xs → AllByRecursion Q xs
All-implied P Q [] f h = tt
All-implied P Q (x ∷ xs) f h = (f x h.0, All-implied P Q xs f h.1)

pub All-filtered : (P : Grant → Type 0) (p : Grant → Bool) (xs : List Grant) → AllByRecursion P xs → AllByRecursion P (filter p xs)
All-filtered P p [] h = tt
All-filtered P p (x ∷ xs) h =
    elim (p x) as (λ b. AllByRecursion P (cond b (x ∷ filter p xs) (filter p xs))) [
      | true ↦ (h.0, All-filtered P p xs h.1)
      | false ↦ All-filtered P p xs h.1
    ]

-- what it makes is supported by what lets him make it
pub singles-supported : (os : List Ownership) (kept : List Grant) (first : ℕ) (at : Moment) (by : User) (atoms : List Atom) (whom : List User) (option : Bool) → AllByRecursion (λ atom. may_grant os kept by atom ≡ true) atoms → AllByRecursion (λ g. g.moment.0 < at.0) kept → AreSupported os kept (singles first at by atoms whom option)
singles-supported os kept first at by atoms whom option may later =
    singles-all (λ g. is_supported os kept g ≡ true) (λ atom. may_grant os kept by atom ≡ true) first at by atoms whom option
    (λ g q by_user made.
    let Later : Moment → Type 0 = λ m. AllByRecursion (λ e. e.moment.0 < m.0) kept in
    let By : User → Type 0 = λ u. may_grant os kept u g.atom ≡ true in
    supported-from_may os kept g (subst Later (sym made) later) (subst By (sym by_user) q))
    may

fold-all : (P : Grant → Type 0) (o : List Ownership) (kept grants : List Grant) → AllByRecursion P kept → AllByRecursion P grants → AllByRecursion P (fold (kept_with o) kept grants)
fold-all P o kept [] h k = h
fold-all P o kept (g ∷ gs) h k =
    fold-all P o (kept_with o kept g) gs
    (elim (is_supported o kept g) as (λ b. AllByRecursion P (cond b (kept ++ g ∷ []) kept)) [ true ↦ AllByRecursion-append P kept (g ∷ []) h (k.0, tt) | false ↦ h ])
    k.1

-- what holds of each grant holds of each valid one
pub All-valid : (P : Grant → Type 0) (o : List Ownership) (grants : List Grant) → AllByRecursion P grants → AllByRecursion P (valid o grants)
All-valid P o grants h = fold-all P o [] grants tt h

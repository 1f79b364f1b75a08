-- Why a user holds a privilege, or does not.
use Rattle.std.specs.Prelude.{◌≡◌, ◌+◌, true, false, Bool, ℕ, List, [], ◌∷◌, ◌++◌, All, is_some, slice_get, Some}
use Rattle.std.specs.List.{Contains}
use Rattle.base_core.specs.declared.name.User.{User}
use Rattle.base_core.specs.declared.privilege.Atom.{Atom}
use Rattle.base_core.specs.declared.value.Moment.{Moment}
use Rattle.grants_core.specs.declared.grant.Grant.{Grant}
use Rattle.grants_core.specs.declared.grant.Change.{Change}
use Rattle.grants_core.specs.declared.grant.Change.TheVariants as change
use Rattle.grants_core.specs.Owners.{owns}
use Rattle.grants_core.specs.Valid.{supports}
use Rattle.grants_core.specs.Content.{gives, holds}
use Rattle.grants_core.specs.History.{in_force_after, owners_after}
use Rattle.explain_core.specs.declared.why.Why.{Why}
use Rattle.explain_core.specs.declared.why.Why.TheVariants as why
use Rattle.explain_core.specs.Lives.{given_to}

-- whether the user holds the atom after the changes
abbrev pub holds_after : List Change → User → Atom → Bool
holds_after changes user atom =
    holds (owners_after changes) (in_force_after changes) user atom

-- each grant was made by the grantee of the one before, who had the privilege with the option from
-- an earlier moment
abbrev pub EachSupportsNext : List Grant → Type 0
EachSupportsNext [] = Unit {0}
EachSupportsNext (g ∷ []) = Unit {0}
EachSupportsNext (g ∷ h ∷ more) = (supports g h ≡ true) × EachSupportsNext (h ∷ more)

-- A chain of grants in force, from the owner down to the last.
pub record IsChain (changes : List Change) (chain : List Grant) (last : Grant) : Type 0 where
  pub in_force : All (λ g. Contains (in_force_after changes) g) chain
  pub linked : EachSupportsNext chain
  pub begins : (first : Grant) × (more : List Grant)
      × (chain ≡ first ∷ more) × (owns (owners_after changes) first.grantor first.atom ≡ true)
  pub ends : (front : List Grant) × (chain ≡ front ++ last ∷ [])

-- the change of this moment creates the atom's table for the user
abbrev pub CreatesAt : List Change → Moment → User → Atom → Type 0
CreatesAt changes at user atom =
    (m : ℕ) × (at.0 ≡ m + 1) × (slice_get changes m ≡ Some (change.Create atom.table user))

-- why the user holds the atom after the changes: he owns the table, which was created at this moment; or
-- by a chain down to a grant that gives it to him; or why he does not: each grant that was ever made to
-- him has fallen
abbrev pub IsWhy : List Change → User → Atom → Why → Type 0
IsWhy changes user atom (why.Owns since) =
    (owns (owners_after changes) user atom ≡ true) × CreatesAt changes since user atom
IsWhy changes user atom (why.Holds chain) =
    (owns (owners_after changes) user atom ≡ false)
    × (last : Grant) × (gives user atom last ≡ true) × IsChain changes chain.items last
IsWhy changes user atom (why.Lacks given) =
    (holds_after changes user atom ≡ false) × (given.items ≡ given_to changes user atom)
    × All (λ life. is_some life.fell ≡ true) given.items

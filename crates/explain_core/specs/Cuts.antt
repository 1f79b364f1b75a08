-- What takes a privilege from a user.
use Rattle.std.specs.Prelude.{◌≡◌, ◌⊎◌, true, false, List, [], ◌∷◌, ◌++◌, All, Option, Some, None}
use Rattle.base_core.specs.declared.name.User.{User}
use Rattle.base_core.specs.declared.privilege.Atom.{Atom}
use Rattle.grants_core.specs.declared.grant.Grant.{Grant}
use Rattle.grants_core.specs.declared.grant.Change.{Change}
use Rattle.grants_core.specs.declared.grant.Change.TheVariants as change
use Rattle.grants_core.specs.Owners.{owns}
use Rattle.grants_core.specs.Content.{gives, has_made}
use Rattle.grants_core.specs.History.{in_force_after, owners_after}
use Rattle.explain_core.specs.declared.cut.Cut.{Cut}
use Rattle.explain_core.specs.Chains.{holds_after, IsChain}
use Rattle.explain_core.specs.Losses.{others_than}

-- the changes, and then this user's revocation of the atom from these users
abbrev pub with_revoked : List Change → User → Atom → List User → List Change
with_revoked changes by atom whom = changes ++ change.Revoke by (atom ∷ []) whom ∷ []

-- from whomever this user revokes the atom, the other still holds it
abbrev pub CannotTake : List Change → User → Atom → User → Type 0
CannotTake changes user atom by =
    (whom : List User) → holds_after (with_revoked changes by atom whom) user atom ≡ true

-- A chain of grants in force leads from the owner down to the user, and one of them is by this
-- grantor. No grantor nearer to the user, by whom a later one of them is, can take the atom.
abbrev pub IsNearest : List Change → User → Atom → User → Type 0
IsNearest changes user atom grantor =
    (front : List Grant) × (g : Grant) × (back : List Grant) × (last : Grant)
    × IsChain changes (front ++ g ∷ back) last × (gives user atom last ≡ true)
    × (g.grantor ≡ grantor) × All (λ h. CannotTake changes user atom h.grantor) back

-- A revocation that its user may say, after which the other no longer holds the atom: from no one
-- who could be left out, and by the nearest grantor whose revocation takes it.
pub record TakesPrivilege (changes : List Change) (user : User) (atom : Atom) (cut : Cut)
    : Type 0 where
  pub held : holds_after changes user atom ≡ true
  pub made : All (λ v. has_made (in_force_after changes) cut.by v atom ≡ true) cut.whom.items
  pub lost : holds_after (with_revoked changes cut.by atom cut.whom.items) user atom ≡ false
  pub needed : All (λ v. holds_after (with_revoked changes cut.by atom
      (others_than v cut.whom.items)) user atom ≡ true) cut.whom.items
  pub nearest : IsNearest changes user atom cut.by

-- nothing can take it from an owner, and nothing has to from who does not hold it
abbrev pub IsCut : List Change → User → Atom → Option Cut → Type 0
IsCut changes user atom (Some cut) = TakesPrivilege changes user atom cut
IsCut changes user atom None =
    (owns (owners_after changes) user atom ≡ true) ⊎ (holds_after changes user atom ≡ false)

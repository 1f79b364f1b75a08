-- Lists of changes as an authority accepts them.
use Rattle.std.specs.Prelude.{◌≡◌, false, List, ◌∷◌, ◌++◌, None}
use Rattle.base_core.specs.declared.name.Name.{Name}
use Rattle.base_core.specs.declared.name.User.{User}
use Rattle.grants_core.specs.declared.grant.Change.{Change}
use Rattle.grants_core.specs.declared.grant.Change.TheVariants as change
use Rattle.grants_core.specs.Owners.{owner_of}
use Rattle.grants_core.specs.History.{owners_after, is_granted}
use Rattle.grants_core.specs.Noted.{AreGrantable}

-- each table is created once, and before any grant on it
abbrev pub AreCreatedFirst : List Change → Type 0
AreCreatedFirst changes =
    (before after : List Change) (table : Name) (owner : User)
    → changes ≡ before ++ change.Create table owner ∷ after
    → (owner_of (owners_after before) table ≡ None) × (is_granted before table ≡ false)

-- and each grant is by a user who may grant all of it at that point
pub record AreLawful (changes : List Change) : Type 0 where
  pub created : AreCreatedFirst changes
  pub grantable : AreGrantable changes

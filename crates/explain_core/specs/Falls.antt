-- What a grant fell by.
use Rattle.std.specs.Prelude.{◌≡◌, ◌⊎◌, ◌+◌, true, false, Bool, ◌||◌, ◌&&◌, ◌==◌, ℕ, List, [], ◌∷◌, ◌++◌, All, map, slice_get, Option, Some}
use Rattle.std.specs.List.{Contains}
use Rattle.std.specs.Option.{option_map_or}
use Rattle.base_core.specs.declared.value.Moment.{Moment}
use Rattle.grants_core.specs.declared.grant.Grant.{Grant}
use Rattle.grants_core.specs.declared.grant.Change.{Change}
use Rattle.grants_core.specs.declared.grant.Change.TheVariants as change
use Rattle.grants_core.specs.Content.{names}
use Rattle.explain_core.specs.declared.life.Life.{Life}
use Rattle.explain_core.specs.Lives.{lives_of}
use Rattle.explain_core.specs.Chains.{EachSupportsNext}

-- whether the change revokes the grant itself
abbrev pub strikes : Change → Grant → Bool
strikes (change.Create table owner) g = false
strikes (change.Grant by atoms whom option) g = false
strikes (change.Revoke by atoms whom) g = names by atoms whom g
strikes (change.RevokeOption by atoms whom) g = false
strikes change.Other g = false

-- whether it revokes the grant's option
abbrev pub takes_option : Change → Grant → Bool
takes_option (change.Create table owner) g = false
takes_option (change.Grant by atoms whom option) g = false
takes_option (change.Revoke by atoms whom) g = false
takes_option (change.RevokeOption by atoms whom) g = g.option && names by atoms whom g
takes_option change.Other g = false

-- the change of this moment
abbrev pub IsChangeAt : List Change → Moment → Change → Type 0
IsChangeAt changes at c = (m : ℕ) × (at.0 ≡ m + 1) × (slice_get changes m ≡ Some c)

-- How a grant fell at a moment: from a grant that the change of that moment names, a line of grants leads
-- down to it, each of which had its option from the one before until then. Where only the option of the
-- first was revoked, it is another grant.
pub record IsDescent (changes : List Change) (at : Moment) (line : List Life) (last : Life) : Type 0 where
  pub made : All (λ life. Contains (lives_of changes) life) line
  pub linked : EachSupportsNext (map (λ life. life.grant) line)
  pub until : All (λ life. (life.option_end ≡ Some at) ⊎ (life ≡ last)) line
  pub fell : last.fell ≡ Some at
  pub begins : (first : Life) × (more : List Life) × (c : Change)
      × (line ≡ first ∷ more) × IsChangeAt changes at c
      × ((strikes c first.grant ≡ true) ⊎ ((takes_option c first.grant ≡ true) × (more ≡ [] → ⊥)))
  pub ends : (front : List Life) × (line ≡ front ++ last ∷ [])

-- whether a change is a REVOKE, of grants or of their options
abbrev pub is_revocation : Change → Bool
is_revocation (change.Create table owner) = false
is_revocation (change.Grant by atoms whom option) = false
is_revocation (change.Revoke by atoms whom) = true
is_revocation (change.RevokeOption by atoms whom) = true
is_revocation change.Other = false

-- whether an end is this moment
abbrev pub is_end : Moment → Option Moment → Bool
is_end at end = option_map_or (λ m. m.0 == at.0) end false

-- whether the life's option, with which it was made, ended at the moment
abbrev pub loses_option_at : Moment → Life → Bool
loses_option_at at life = life.grant.option && is_end at life.option_end

-- whether the change of the moment took the life's grant, or its option
abbrev pub is_taken_at : Moment → Life → Bool
is_taken_at at life = is_end at life.fell || loses_option_at at life

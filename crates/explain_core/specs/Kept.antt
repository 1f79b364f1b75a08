-- What a history keeps.
use Rattle.std.specs.Prelude.{◌≡◌, ◌<◌, ℕ, true, false, List, length, Option, Some, None, slice_get}
use Rattle.base_core.specs.declared.value.Moment.{Moment}
use Rattle.grants_core.specs.declared.grant.Change.{Change}
use Rattle.grants_core.specs.declared.grant.Ownership.{Ownership}
use Rattle.grants_core.specs.Owners.{owns}
use Rattle.grants_core.specs.Valid.{supports}
use Rattle.grants_core.specs.History.{owners_after}
use Rattle.grants_core.specs.Lawful.{AreLawful}
use Rattle.explain_core.specs.Lives.{lives_of}
use Rattle.explain_core.specs.Falls.{strikes, takes_option, IsChangeAt}
use Rattle.explain_core.specs.declared.life.Life.{Life}

-- the grant of the life fell at this moment, by this change, which does not strike it
pub record FallsUnstruck (changes : List Change) (life : Life) (at : Moment)
    (c : Change) : Type 0 where
  pub fell : life.fell ≡ Some at
  pub change : IsChangeAt changes at c
  pub unstruck : strikes c life.grant ≡ false

-- the option that it was made with ended at this moment, by this change, which neither strikes it
-- nor takes the option
pub record EndsUntaken (changes : List Change) (life : Life) (at : Moment)
    (c : Change) : Type 0 where
  pub option : life.grant.option ≡ true
  pub ended : life.option_end ≡ Some at
  pub change : IsChangeAt changes at c
  pub unstruck : strikes c life.grant ≡ false
  pub untaken : takes_option c life.grant ≡ false

-- one life supports another, and has its option as long as the other stands; where the other ends,
-- and not by a change that names it, its own option ends by that change
pub record SupportsLife (changes : List Change) (above life : Life) : Type 0 where
  pub supports : supports above.grant life.grant ≡ true
  pub stands : life.fell ≡ None → above.option_end ≡ None
  pub falls : (at : Moment) (c : Change)
      → FallsUnstruck changes life at c → above.option_end ≡ Some at
  pub ends : (at : Moment) (c : Change)
      → EndsUntaken changes life at c → above.option_end ≡ Some at

-- a life is by the owner, and ends by changes that name it alone
pub record IsByOwner (changes : List Change) (owners : List Ownership) (life : Life) : Type 0 where
  pub owns : owns owners life.grant.grantor life.grant.atom ≡ true
  pub falls : (at : Moment) (c : Change) → ¬ (FallsUnstruck changes life at c)
  pub ends : (at : Moment) (c : Change) → ¬ (EndsUntaken changes life at c)

-- a life is by the owner, or has a support that comes before it
abbrev pub IsSupported : List Change → List Ownership → List Life → Life → Option ℕ → Type 0
IsSupported changes owners lives life None = IsByOwner changes owners life
IsSupported changes owners lives life (Some place) =
    (place < life.grant.number)
    × (above : Life) × (slice_get lives place ≡ Some above) × SupportsLife changes above life

-- the history of the changes
pub record Explains (changes : List Change) (owners : List Ownership) (lives : List Life)
    (supports : List (Option ℕ)) : Type 0 where
  pub lawful : AreLawful changes
  pub owners_of : owners ≡ owners_after changes
  pub lives_are : lives ≡ lives_of changes
  pub as_many : length supports ≡ length lives
  pub supported : (place : ℕ) (life : Life) (support : Option ℕ)
      → slice_get lives place ≡ Some life
      → slice_get supports place ≡ Some support
      → IsSupported changes owners lives life support

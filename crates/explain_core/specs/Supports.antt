-- The lives that support others.
use Rattle.std.specs.Prelude.{◌≡◌, ℕ, ◌<◌, ◌≤◌, Bool, true, false, ◌&&◌, if◌then◌else◌, List, length, take, All, Option, Some, None, slice_get}
use Rattle.std.specs.List.{list_any}
use Rattle.indexmap.specs.IndexMap.{get}
use Rattle.base_core.specs.declared.value.Moment.{Moment}
use Rattle.grants_core.specs.declared.key.Holding.{Holding}
use Rattle.grants_core.specs.Keys.{same_holding, given_by}
use Rattle.explain_core.specs.declared.life.Life.{Life}
use Rattle.explain_core.specs.declared.supports.Support.{Support}
use Rattle.explain_core.specs.declared.supports.Supports.{Supports}
use Rattle.explain_core.specs.Ends.{is_later}

-- whether the grant of the life gives the privilege to the user with the option
abbrev pub gives_option : Holding → Life → Bool
gives_option w life = life.grant.option && same_holding (given_by life.grant) w

-- whether an end comes later than that of the support, or there is none
abbrev pub outlasts : Option Moment → Option Support → Bool
outlasts end None = true
outlasts end (Some support) = is_later end support.until

-- what is noted of a user and privilege, once the life at this place is
abbrev pub noted_with : ℕ → Life → Holding → Option Support → Option Support
noted_with place life w old =
    if gives_option w life && outlasts life.option_end old
    then Some (record { place = place; until = life.option_end }) else old

-- of the first lives, one that gives it to him with the option and keeps that longest; or none does
abbrev pub IsLongest : List Life → ℕ → Holding → Option Support → Type 0
IsLongest lives noted w None = list_any (gives_option w) (take noted lives) ≡ false
IsLongest lives noted w (Some support) =
    (support.place < noted)
    × (above : Life) × (slice_get lives support.place ≡ Some above)
    × (gives_option w above ≡ true) × (above.option_end ≡ support.until)
    × All (λ life. gives_option w life ≡ true → is_later life.option_end support.until ≡ false)
    (take noted lives)

-- the first of the lives are noted, for each user and privilege the longest
pub record AreLongest (lives : List Life) (supports : Supports) : Type 0 where
  pub within : supports.noted ≤ length lives
  pub longest : (w : Holding)
      → IsLongest lives supports.noted w (get same_holding supports.longest w)

-- the noted lives began before the moment
abbrev pub AreEarly : List Life → Supports → Moment → Type 0
AreEarly lives supports moment =
    All (λ life. life.grant.moment.0 < moment.0) (take supports.noted lives)

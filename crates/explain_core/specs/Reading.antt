-- What is read of a history, grant by grant.
use Rattle.std.specs.Prelude.{◌≡◌, ℕ, ◌≤◌, Bool, not, ◌&&◌, nat_le, List, length, map, filter, take, All, Option, Some, None, slice_get}
use Rattle.base_core.specs.declared.value.Moment.{Moment}
use Rattle.grants_core.specs.declared.grant.Grant.{Grant}
use Rattle.grants_core.specs.declared.grant.Change.{Change}
use Rattle.grants_core.specs.Content.{option_off}
use Rattle.grants_core.specs.Valid.{valid}
use Rattle.grants_core.specs.History.{granted, is_struck, is_unoptioned, owners_after}
use Rattle.explain_core.specs.declared.life.Life.{Life}
use Rattle.explain_core.specs.declared.made.Made.{Made}
use Rattle.explain_core.specs.declared.supports.Supports.{Supports}
use Rattle.grants_core.specs.Lawful.{AreLawful}
use Rattle.explain_core.specs.Ends.{is_before}
use Rattle.explain_core.specs.Kept.{IsSupported}
use Rattle.explain_core.specs.Supports.{AreEarly}

-- what the first m changes leave of these grants
abbrev pub left_at : List Change → ℕ → List Grant → List Grant
left_at changes m grants =
    map (option_off (is_unoptioned (take m changes)))
    (filter (λ g. not (is_struck (take m changes) g)) (filter (λ g. nat_le g.moment.0 m) grants))

-- whether a grant stands at moment m, by its life
abbrev pub stands : ℕ → Life → Bool
stands m life = nat_le life.grant.moment.0 m && is_before m life.fell

-- the grants that stand at moment m, by these lives
abbrev pub standing_at : List Change → ℕ → List Life → List Grant
standing_at changes m lives =
    map (λ life. option_off (is_unoptioned (take m changes)) life.grant) (filter (stands m) lives)

-- the option of a life ends as its grant does, or by a revocation
abbrev pub EndsRight : List Change → Life → Type 0
EndsRight changes life =
    (m : ℕ) → life.grant.moment.0 ≤ m
    → is_before m life.option_end
    ≡ (life.grant.option
    && (not (is_unoptioned (take m changes) life.grant) && is_before m life.fell))

-- the end, if there is one, is between these moments
abbrev pub EndsWithin : ℕ → ℕ → Option Moment → Type 0
EndsWithin low high None = Unit {0}
EndsWithin low high (Some end) = (low ≤ end.0) × (end.0 ≤ high)

-- the lives of the first grants
pub record AreLives (changes : List Change) (lives : List Life) : Type 0 where
  pub made : map (λ life. life.grant) lives ≡ take (length lives) (granted changes)
  pub stand : (m : ℕ)
      → valid (owners_after changes) (left_at changes m (map (λ life. life.grant) lives))
      ≡ standing_at changes m lives
  pub options : All (EndsRight changes) lives
  pub falls : All (λ life. EndsWithin life.grant.moment.0 (length changes) life.fell) lives
  pub ends : All (λ life. EndsWithin life.grant.moment.0 (length changes) life.option_end) lives

-- the lives and supports of the first grants
pub record IsRead (changes : List Change) (made : Made) (lives : List Life)
    (places : List (Option ℕ)) : Type 0 where
  pub lawful : AreLawful changes
  pub owners : made.owners ≡ owners_after changes
  pub grants : made.grants.items ≡ granted changes
  pub lives_are : AreLives changes lives
  pub as_many : length places ≡ length lives
  pub supported : (place : ℕ) (life : Life) (support : Option ℕ)
      → slice_get lives place ≡ Some life
      → slice_get places place ≡ Some support
      → IsSupported changes (owners_after changes) lives life support

-- the noted lives began before each grant that is to come
abbrev pub AreEarlier : Made → List Life → Supports → Type 0
AreEarlier made lives supports =
    (place : ℕ) (g : Grant)
    → length lives ≤ place
    → slice_get made.grants.items place ≡ Some g
    → AreEarly lives supports g.moment

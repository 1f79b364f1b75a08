-- How a branch of supports goes on.
use Rattle.std.specs.Prelude.{◌≡◌, ◌⊎◌, ◌<◌, ℕ, Bool, true, false, not, ◌||◌, ◌&&◌, List, Option, Some, None, slice_get}
use Rattle.grants_core.specs.declared.grant.Grant.{Grant}
use Rattle.grants_core.specs.declared.grant.Change.{Change}
use Rattle.grants_core.specs.History.{owners_after}
use Rattle.explain_core.specs.Lives.{lives_of}
use Rattle.explain_core.specs.Falls.{strikes, takes_option}
use Rattle.explain_core.specs.Kept.{SupportsLife, IsByOwner}
use Rattle.explain_core.specs.declared.life.Life.{Life}

-- whether the change names the grant; that it takes its option counts for all but the last of a
-- line
abbrev pub is_named_in_line : Change → Bool → Grant → Bool
is_named_in_line c is_last g = strikes c g || not is_last && takes_option c g

-- the place of a life's support; or none, where the change names it or it is by the owner
abbrev pub IsAbove : List Change → Change → Bool → ℕ → Life → Option ℕ → Type 0
IsAbove changes c is_last place life None =
    (is_named_in_line c is_last life.grant ≡ true) ⊎ IsByOwner changes (owners_after changes) life
IsAbove changes c is_last place life (Some support) =
    (is_named_in_line c is_last life.grant ≡ false)
    × (support < place)
    × (above : Life) × (slice_get (lives_of changes) support ≡ Some above)
    × SupportsLife changes above life

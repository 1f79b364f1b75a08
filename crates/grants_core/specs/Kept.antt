-- The valid grants as they are kept, by which it is told at once whether one supports another.
use Rattle.std.specs.Prelude.{◌≡◌, Bool, false, nat_lt}
use Rattle.std.specs.List.{list_any}
use Rattle.std.specs.Option.{option_map_or}
use Rattle.indexmap.specs.IndexMap.{IndexMap, get}
use Rattle.base_core.specs.declared.value.Moment.{Moment}
use Rattle.grants_core.specs.declared.key.Holding.{Holding}
use Rattle.grants_core.specs.declared.grant.Grant.{Grant}
use Rattle.grants_core.specs.declared.kept.KeptGrants.{KeptGrants}
use Rattle.grants_core.specs.Keys.{same_holding, needed_by}
use Rattle.grants_core.specs.Valid.{supports}

-- whether the user had the privilege with the option before the moment
unfoldable pub held_before : {S : Type 0} → IndexMap Holding Moment S → Holding → Moment → Bool
held_before since holding at =
    option_map_or (λ first. nat_lt first.0 at.0) (get same_holding since holding) false

-- whether the grant's grantor had its privilege with the option before it
abbrev pub has_support : {S : Type 0} → IndexMap Holding Moment S → Grant → Bool
has_support since g = held_before since (needed_by g) g.moment

-- the map tells of each grant whether one of those kept supports it
abbrev pub IsIndexed : KeptGrants → Type 0
IsIndexed kept =
    (g : Grant) → has_support kept.since g ≡ list_any (λ h. supports h g) kept.grants.items

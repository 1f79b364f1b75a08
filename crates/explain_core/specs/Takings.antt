-- How changes take grants.
use Rattle.std.specs.Prelude.{◌-◌, ◌==◌, Bool, false, if◌then◌else◌, List, slice_get, Option, None}
use Rattle.std.specs.Option.{option_map_or}
use Rattle.base_core.specs.declared.value.Moment.{Moment}
use Rattle.grants_core.specs.declared.grant.Grant.{Grant}
use Rattle.grants_core.specs.declared.grant.Change.{Change}
use Rattle.explain_core.specs.declared.life.Life.{Life}
use Rattle.explain_core.specs.declared.taking.Taking.{Taking}
use Rattle.explain_core.specs.declared.taking.Taking.TheVariants as takings
use Rattle.explain_core.specs.Falls.{strikes, is_end}

-- what stands at this moment in a list of which the first stands at 1
abbrev pub item_at : {A : Type 0} → List A → Moment → Option A
item_at items at = if at.0 == 0 then None else slice_get items (at.0 - 1)

-- whether the change of this moment is a REVOKE that names the grant
abbrev pub is_struck_at : List Change → Grant → Moment → Bool
is_struck_at changes g at = option_map_or (λ c. strikes c g) (item_at changes at) false

-- how the change of this moment took the life's grant: a REVOKE named it, or it fell with others; or
-- it stayed, and its option alone was revoked
abbrev pub taking_of : List Change → Life → Moment → Taking
taking_of changes life at =
    if is_end at life.fell
    then (if is_struck_at changes life.grant at then takings.Revoked else takings.Fell)
    else takings.OptionRevoked

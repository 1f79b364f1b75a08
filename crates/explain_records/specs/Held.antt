-- Who has which privilege by grants in force, and who may grant it on.
use Rattle.std.specs.Prelude.{◌≡◌, Bool, false, ◌||◌, ◌&&◌, if◌then◌else◌, is_none, List, Option, Some, None}
use Rattle.std.specs.List.{list_any}
use Rattle.std.specs.Option.{option_map_or}
use Rattle.indexmap.specs.IndexMap.{get}
use Rattle.base_core.specs.declared.name.User.{User}
use Rattle.base_core.specs.declared.privilege.Atom.{Atom}
use Rattle.grants_core.specs.declared.key.Holding.{Holding}
use Rattle.grants_core.specs.Keys.{same_holding}
use Rattle.explain_core.specs.declared.life.Life.{Life}
use Rattle.explain_records.specs.declared.held.Held.{Held}
use Rattle.explain_records.specs.Outcomes.{stands_to}

-- a user and a privilege
abbrev pub holding_of : User → Atom → Holding
holding_of user atom = record { user = user; privilege = record { 0 = atom } }

-- whether one of these lives in force gives the user the privilege, and then whether one does with its option
abbrev pub held_as : List Life → Holding → Option Bool
held_as lives w =
    if list_any (stands_to w) lives
    then Some (list_any (λ life. is_none life.option_end && stands_to w life) lives)
    else None

-- whether the option is noted
abbrev pub has_option_noted : Option Bool → Bool
has_option_noted held = option_map_or (λ b. b) held false

-- the same with a life more
abbrev pub held_with : Life → Holding → Option Bool → Option Bool
held_with life w held =
    if stands_to w life then Some (has_option_noted held || is_none life.option_end) else held

-- what is held by these lives, for each user and privilege
abbrev pub AreHeld : List Life → Held → Type 0
AreHeld lives held = (w : Holding) → get same_holding held.of w ≡ held_as lives w

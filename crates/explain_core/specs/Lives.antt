-- How long single grants stand. The m-th change of a list, from 1 on, is that of moment m.
use Rattle.std.specs.Prelude.{ℕ, ◌+◌, ◌-◌, ◌==◌, Bool, not, ◌&&◌, List, map, filter, length, take, Option, option_map}
use Rattle.std.specs.List.{list_any, find, range_with_len}
use Rattle.base_core.specs.declared.name.User.{User}
use Rattle.base_core.specs.declared.privilege.Atom.{Atom}
use Rattle.base_core.specs.declared.value.Moment.{Moment}
use Rattle.grants_core.specs.declared.grant.Grant.{Grant}
use Rattle.grants_core.specs.declared.grant.Change.{Change}
use Rattle.grants_core.specs.Content.{gives}
use Rattle.grants_core.specs.History.{granted, in_force_after}
use Rattle.explain_core.specs.declared.life.Life.{Life}

-- whether the grant is in force at moment m: after the first m changes
abbrev pub stands_at : List Change → Grant → ℕ → Bool
stands_at changes g m = list_any (λ h. h.number == g.number) (in_force_after (take m changes))

-- whether it is with its option
abbrev pub has_option_at : List Change → Grant → ℕ → Bool
has_option_at changes g m =
    list_any (λ h. h.option && h.number == g.number) (in_force_after (take m changes))

-- the first moment from that of the grant on at which a test fails
abbrev pub first_failure : (ℕ → Bool) → List Change → Grant → Option Moment
first_failure test changes g =
    option_map (λ m. record { 0 = m })
    (find (λ m. not (test m))
    (range_with_len g.moment.0 (length changes + 1 - g.moment.0)))

-- when the grant fell: the first moment at which it was no longer in force
abbrev pub fall_of : List Change → Grant → Option Moment
fall_of changes g = first_failure (stands_at changes g) changes g

-- the first moment at which it was not in force with the option, which is its own if it was made
-- without
abbrev pub option_end_of : List Change → Grant → Option Moment
option_end_of changes g = first_failure (has_option_at changes g) changes g

-- the grant, when it fell, and when its option ended
abbrev pub life_of : List Change → Grant → Life
life_of changes g =
    record { grant = g; fell = fall_of changes g; option_end = option_end_of changes g }

-- the lives of all grants that were made
abbrev pub lives_of : List Change → List Life
lives_of changes = map (life_of changes) (granted changes)

-- the lives of those that were made to the user, of the atom
abbrev pub given_to : List Change → User → Atom → List Life
given_to changes user atom = filter (λ life. gives user atom life.grant) (lives_of changes)

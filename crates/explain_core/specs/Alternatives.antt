-- What other grants were missing, where one fell for want of a support.
use Rattle.std.specs.Prelude.{◌==◌, Bool, true, not, ◌&&◌, nat_lt, nat_le, if◌then◌else◌, List, [], ◌∷◌, ◌++◌, map, filter, Option, Some, None, slice_get}
use Rattle.std.specs.Option.{option_map_or}
use Rattle.base_core.specs.Privileges.{same_atom}
use Rattle.base_core.specs.Users.{same_user}
use Rattle.base_core.specs.declared.value.Moment.{Moment}
use Rattle.grants_core.specs.declared.grant.Grant.{Grant}
use Rattle.explain_core.specs.declared.alternative.Alternative.{Alternative}
use Rattle.explain_core.specs.declared.alternative.Missing.{Missing}
use Rattle.explain_core.specs.declared.alternative.Missing.TheVariants as missing
use Rattle.explain_core.specs.declared.life.Life.{Life}
use Rattle.explain_core.specs.Falls.{is_end}

-- what is missing at the moment of an option that ends then
abbrev pub option_missing : Moment → Option Moment → Option Missing
option_missing at None = None
option_missing at (Some end) =
    if nat_lt end.0 at.0 then Some (missing.OptionSince end)
    else if end.0 == at.0 then Some missing.OptionNow else None

-- what the grant of a life was missing at the moment, to support another: itself, as it fell then; or its
-- option, without which it was made, or which ended before or then
abbrev pub missing_at : Moment → Life → Option Missing
missing_at at life =
    if is_end at life.fell then Some missing.Itself
    else if not life.grant.option then Some missing.Option
    else option_missing at life.option_end

-- whether a life that ends then was there until the moment
abbrev pub was_until : Moment → Option Moment → Bool
was_until at fell = option_map_or (λ end. nat_le at.0 end.0) fell true

-- whether a life is of another grant of the privilege than these two, of which the first supported the
-- second: one to who made the second, from before the moment, and there until it
abbrev pub is_alternative : Moment → Grant → Grant → Life → Bool
is_alternative at support unkept life =
    (same_user life.grant.grantee unkept.grantor && same_atom life.grant.atom unkept.atom)
    && ((not (life.grant.number == support.number) && not (life.grant.number == unkept.number))
    && (nat_lt life.grant.moment.0 at.0 && was_until at life.fell))

-- what it was missing at the moment, and whether it came too late, to keep the other grant
abbrev pub alternative_of : Moment → Grant → Life → Alternative
alternative_of at unkept life = record {
  life = life;
  unkept = unkept.moment;
  missing = missing_at at life;
  is_late = nat_le unkept.moment.0 life.grant.moment.0;
}

-- those of the lives that could have kept the second of two grants in place of the first, and did not
abbrev pub alternatives_to : Moment → List Life → Life → Life → List Alternative
alternatives_to at lives support unkept =
    map (alternative_of at unkept.grant)
    (filter (is_alternative at support.grant unkept.grant) lives)

-- for each grant of a descent but the first those that could have kept it, and did not
abbrev pub alternatives : Moment → List Life → List Life → List Alternative
alternatives at lives [] = []
alternatives at lives (support ∷ descent) =
    option_map_or (alternatives_to at lives support) (slice_get descent 0) []
    ++ alternatives at lives descent

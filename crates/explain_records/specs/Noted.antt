-- What is noted of a privilege of a user, life by life.
use Rattle.std.specs.Prelude.{ℕ, Bool, false, ◌||◌, ◌&&◌, if◌then◌else◌, is_none, List, Option, Some, None, option_map}
use Rattle.std.specs.List.{find, list_any}
use Rattle.std.specs.Option.{option_map_or}
use Rattle.base_core.specs.declared.value.Moment.{Moment}
use Rattle.grants_core.specs.declared.key.Holding.{Holding}
use Rattle.explain_core.specs.declared.life.Life.{Life}
use Rattle.explain_core.specs.Falls.{is_taken_at, loses_option_at}
use Rattle.explain_records.specs.declared.outcomes.Outcome.{Outcome}
use Rattle.explain_records.specs.Outcomes.{is_to, stands_to}

-- the first of two that there may be
abbrev pub first_some : Option ℕ → Option ℕ → Option ℕ
first_some (Some n) next = Some n
first_some None next = next

-- whether an option is noted as lost
abbrev pub was_lost : Option Outcome → Bool
was_lost noted = option_map_or (λ outcome. outcome.lost_option) noted false

-- what is known where lives were taken alone
abbrev pub taken_alone : Bool → Outcome
taken_alone lost = record { kept = None; lost_option = lost; has_option = false }

-- with a life that may have been taken
abbrev pub taken_with : Moment → Life → Holding → Option Outcome → Option Outcome
taken_with at life w noted =
    if is_taken_at at life && is_to w life
    then Some (taken_alone (was_lost noted || loses_option_at at life))
    else noted

-- with these lives
abbrev pub taken_among : Moment → Holding → List Life → Option Outcome
taken_among at w lives =
    if list_any (λ life. is_taken_at at life && is_to w life) lives
    then Some (taken_alone (list_any (λ life. loses_option_at at life && is_to w life) lives))
    else None

-- with a life that is in force
abbrev pub kept_by : Life → Outcome → Outcome
kept_by life outcome = record {
  kept = first_some outcome.kept (Some life.grant.number);
  lost_option = outcome.lost_option;
  has_option = outcome.has_option || is_none life.option_end;
}

-- with a life that may be in force, and of the same
abbrev pub standing_with : Life → Holding → Outcome → Outcome
standing_with life w outcome = if stands_to w life then kept_by life outcome else outcome

-- with these
abbrev pub standing_among : Holding → List Life → Outcome → Outcome
standing_among w lives outcome = record {
  kept = first_some outcome.kept (option_map (λ life. life.grant.number) (find (stands_to w) lives));
  lost_option = outcome.lost_option;
  has_option = outcome.has_option || list_any (λ life. is_none life.option_end && stands_to w life) lives;
}

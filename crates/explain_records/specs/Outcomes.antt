-- What a change leaves to those whose grants it takes.
use Rattle.std.specs.Prelude.{◌≡◌, ℕ, Bool, not, ◌&&◌, if◌then◌else◌, is_none, List, codes, Option, Some, None, option_map}
use Rattle.std.specs.List.{find, list_any}
use Rattle.base_core.specs.declared.value.Moment.{Moment}
use Rattle.grants_core.specs.declared.key.Holding.{Holding}
use Rattle.grants_core.specs.Keys.{given_by, same_holding}
use Rattle.explain_core.specs.declared.life.Life.{Life}
use Rattle.explain_core.specs.Falls.{is_taken_at, loses_option_at}
use Rattle.indexmap.specs.IndexMap.{get}
use Rattle.explain_records.specs.declared.outcomes.Outcome.{Outcome}
use Rattle.explain_records.specs.declared.outcomes.Outcomes.{Outcomes}

-- whether the grant of a life gives the user the privilege
abbrev pub is_to : Holding → Life → Bool
is_to w life = same_holding (given_by life.grant) w

-- whether one in force does
abbrev pub stands_to : Holding → Life → Bool
stands_to w life = is_none life.fell && is_to w life

-- of these lives the number of the first by which the user still has it, whether the change of this moment took an
-- option of it from him, and whether he has it with the option
abbrev pub outcome_of : List Life → Moment → Holding → Outcome
outcome_of lives at w = record {
  kept = option_map (λ life. life.grant.number) (find (stands_to w) lives);
  lost_option = list_any (λ life. loses_option_at at life && is_to w life) lives;
  has_option = list_any (λ life. is_none life.option_end && stands_to w life) lives;
}

-- the same of whom the change took a grant of it, or an option; of others nothing
abbrev pub outcome_at : List Life → Moment → Holding → Option Outcome
outcome_at lives at w =
    if list_any (λ life. is_taken_at at life && is_to w life) lives
    then Some (outcome_of lives at w) else None

-- what a change of this moment leaves, for each user and privilege
abbrev pub AreOutcomes : List Life → Moment → Outcomes → Type 0
AreOutcomes lives at outcomes = (w : Holding) → get same_holding outcomes.of w ≡ outcome_at lives at w

-- what that is in words, for a user who owns the table or does not
abbrev pub left_text : Bool → Outcome → List ℕ
left_text is_owner outcome =
    if is_owner then codes "keeps"
    else if is_none outcome.kept then codes "loses"
    else if outcome.lost_option && not outcome.has_option then codes "keeps without option"
    else codes "keeps"

-- The records of what came, fell and changed since a moment.
use Rattle.std.specs.Prelude.{ℕ, Bool, true, false, not, ◌&&◌, nat_le, nat_lt, is_none, if◌then◌else◌, List, [], ◌∷◌, ◌++◌, codes, decimal, Option, Some, None}
use Rattle.std.specs.List.{flat_map}
use Rattle.std.specs.Option.{option_map_or}
use Rattle.base_core.specs.declared.name.Name.{Name}
use Rattle.base_core.specs.declared.name.User.{User}
use Rattle.base_core.specs.declared.value.Moment.{Moment}
use Rattle.grants_core.specs.declared.grant.Change.{Change}
use Rattle.grants_core.specs.declared.grant.Change.TheVariants as change
use Rattle.reply_core.specs.Texts.{kind_text}
use Rattle.explain_core.specs.declared.life.Life.{Life}
use Rattle.explain_core.specs.Ends.{is_before}
use Rattle.explain_core.specs.Lives.{lives_of}
use Rattle.explain_records.specs.declared.differences.Difference.{Difference}
use Rattle.explain_records.specs.declared.differences.Difference.TheVariants as differences
use Rattle.explain_records.specs.Cells.{flag_text}
use Rattle.explain_records.specs.Telling.{Fields, answer_of, numbered_records}
use Rattle.explain_records.specs.Records.{any_moment_text, how_text, line_number}

-- whether a grant was in force at moment m, by its life
abbrev pub was_there : ℕ → Life → Bool
was_there m life = nat_le life.grant.moment.0 m && is_before m life.fell

-- and whether it was with its option
abbrev pub had_option : ℕ → Life → Bool
had_option m life = nat_le life.grant.moment.0 m && is_before m life.option_end

-- what became of a grant since moment m: it came, it fell, or it stayed and lost its option; or nothing
abbrev pub difference_of : ℕ → Life → Option Difference
difference_of m life =
    if was_there m life
    then (if not (is_none life.fell) then Some differences.Fell
    else if had_option m life && not (is_none life.option_end) then Some differences.LostOption
    else None)
    else if is_none life.fell then Some differences.Came
    else None

abbrev pub difference_text : Difference → List ℕ
difference_text differences.Came = codes "came"
difference_text differences.Fell = codes "fell"
difference_text differences.LostOption = codes "lost option"

-- whether what came has the option, or what fell had it; what lost it has none
abbrev pub option_then : ℕ → Life → Difference → Bool
option_then m life differences.Came = is_none life.option_end
option_then m life differences.Fell = had_option m life
option_then m life differences.LostOption = false

-- the moment at which it came, fell or lost its option
abbrev pub moment_then : Life → Difference → Option Moment
moment_then life differences.Came = Some life.grant.moment
moment_then life differences.Fell = life.fell
moment_then life differences.LostOption = life.option_end

-- how
abbrev pub how_then : List Change → Life → Difference → List ℕ
how_then changes life differences.Came = codes "granted"
how_then changes life differences.Fell = how_text changes life
how_then changes life differences.LostOption = codes "option revoked"

-- the record of what became of a grant: change, table, user, privilege, option, since, by, at, how, line
abbrev pub difference_record : List Change → List ℕ → ℕ → Life → Difference → Fields
difference_record changes numbers m life d =
    difference_text d ∷ life.grant.atom.table ∷ life.grant.grantee.0
    ∷ kind_text life.grant.atom.kind ∷ flag_text (option_then m life d)
    ∷ decimal life.grant.moment.0 ∷ life.grant.grantor.0
    ∷ any_moment_text (moment_then life d) ∷ how_then changes life d
    ∷ option_map_or (line_number numbers) (moment_then life d) [] ∷ []

-- the same, if anything became of it
abbrev pub difference_records : List Change → List ℕ → ℕ → Life → List Fields
difference_records changes numbers m life =
    option_map_or (λ d. difference_record changes numbers m life d ∷ []) (difference_of m life) []

-- the right of an owner that came, who created the table at this moment
abbrev pub owner_difference : List ℕ → Name → User → ℕ → Fields
owner_difference numbers table owner n =
    codes "came" ∷ table ∷ owner.0 ∷ codes "OWNER" ∷ flag_text true ∷ decimal n ∷ []
    ∷ decimal n ∷ codes "created" ∷ line_number numbers (record { 0 = n }) ∷ []

-- the record of the owner whose table a change of moment n creates, if that is behind moment m
abbrev pub owner_differences_by : List ℕ → ℕ → ℕ → Change → List Fields
owner_differences_by numbers m n (change.Create table owner) =
    if nat_lt m n then owner_difference numbers table owner n ∷ [] else []
owner_differences_by numbers m n (change.Grant by atoms whom option) = []
owner_differences_by numbers m n (change.Revoke by atoms whom) = []
owner_differences_by numbers m n (change.RevokeOption by atoms whom) = []
owner_differences_by numbers m n change.Other = []

-- the answer to what came, fell and changed since moment m
abbrev pub diff_answer : List Change → List ℕ → ℕ → List ℕ
diff_answer changes numbers m =
    answer_of (codes "change,table,user,privilege,option,since,by,at,how,line\n")
    (numbered_records (owner_differences_by numbers m) 1 changes
    ++ flat_map (difference_records changes numbers m) (lives_of changes))

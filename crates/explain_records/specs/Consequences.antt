-- The records of what a change takes from whom.
use Rattle.std.specs.Prelude.{ℕ, Bool, not, ◌&&◌, if◌then◌else◌, List, [], ◌∷◌, codes, decimal, filter, length, map}
use Rattle.std.specs.List.{list_any}
use Rattle.base_core.specs.declared.name.User.{User}
use Rattle.base_core.specs.declared.privilege.Atom.{Atom}
use Rattle.base_core.specs.declared.value.Moment.{Moment}
use Rattle.grants_core.specs.declared.grant.Change.{Change}
use Rattle.grants_core.specs.Content.{gives}
use Rattle.grants_core.specs.Noted.{may_grant_after}
use Rattle.reply_core.specs.Texts.{kind_text}
use Rattle.explain_core.specs.declared.life.Life.{Life}
use Rattle.explain_core.specs.declared.taking.Taking.{Taking}
use Rattle.explain_core.specs.declared.taking.Taking.TheVariants as takings
use Rattle.explain_core.specs.Chains.{holds_after}
use Rattle.explain_core.specs.Falls.{is_taken_at, loses_option_at}
use Rattle.explain_core.specs.Lives.{lives_of}
use Rattle.explain_core.specs.Takings.{taking_of}
use Rattle.explain_records.specs.Cells.{flag_text}
use Rattle.explain_records.specs.Telling.{Fields, answer_of}
use Rattle.explain_records.specs.Records.{line_number}

-- how a grant is taken
abbrev pub taking_text : Taking → List ℕ
taking_text takings.Revoked = codes "revoked"
taking_text takings.Fell = codes "fell"
taking_text takings.OptionRevoked = codes "option revoked"

-- whether the change of this moment took an option of the atom from the user
abbrev pub lost_option_at : List Change → Moment → User → Atom → Bool
lost_option_at changes at user atom =
    list_any (λ life. loses_option_at at life && gives user atom life.grant) (lives_of changes)

-- what is left to him of it
abbrev pub outcome_text : List Change → Moment → User → Atom → List ℕ
outcome_text changes at user atom =
    if not (holds_after changes user atom) then codes "loses"
    else if lost_option_at changes at user atom && not (may_grant_after changes user atom)
    then codes "keeps without option"
    else codes "keeps"

-- a grant that is taken, or its option, and what is left to its grantee
abbrev pub consequence_record : List Change → List ℕ → Moment → Life → Fields
consequence_record changes numbers at life =
    life.grant.atom.table ∷ life.grant.grantee.0 ∷ kind_text life.grant.atom.kind
    ∷ flag_text (loses_option_at at life) ∷ decimal life.grant.moment.0 ∷ life.grant.grantor.0
    ∷ taking_text (taking_of changes life at) ∷ line_number numbers life.grant.moment
    ∷ outcome_text changes at life.grant.grantee life.grant.atom ∷ []

-- the moment of the last change
abbrev pub moment_of_last : List Change → Moment
moment_of_last changes = record { 0 = length changes }

-- the answer to what the last change takes
abbrev pub if_answer : List Change → List ℕ → List ℕ
if_answer changes numbers =
    answer_of (codes "table,user,privilege,option,since,by,how,line,outcome\n")
    (map (consequence_record changes numbers (moment_of_last changes))
    (filter (is_taken_at (moment_of_last changes)) (lives_of changes)))

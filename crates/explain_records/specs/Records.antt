-- The records of rights: what each answer has, to the byte. The m-th change of a list, from 1 on, is that of moment m.
use Rattle.std.specs.Prelude.{ℕ, Bool, true, if◌then◌else◌, is_some, List, [], ◌∷◌, ◌++◌, codes, decimal, filter, map, Option}
use Rattle.std.specs.List.{list_any}
use Rattle.std.specs.Option.{option_map_or}
use Rattle.base_core.specs.Privileges.{same_atom}
use Rattle.base_core.specs.declared.name.Name.{Name}
use Rattle.base_core.specs.declared.name.User.{User}
use Rattle.base_core.specs.declared.privilege.Atom.{Atom}
use Rattle.base_core.specs.declared.value.Moment.{Moment}
use Rattle.grants_core.specs.declared.grant.Grant.{Grant}
use Rattle.grants_core.specs.declared.grant.Change.{Change}
use Rattle.grants_core.specs.declared.grant.Change.TheVariants as change
use Rattle.grants_core.specs.History.{in_force_after}
use Rattle.reply_core.specs.Texts.{kind_text}
use Rattle.explain_core.specs.declared.life.Life.{Life}
use Rattle.explain_core.specs.Lives.{lives_of}
use Rattle.explain_core.specs.Takings.{item_at, is_struck_at}
use Rattle.explain_records.specs.Cells.{flag_text}
use Rattle.explain_records.specs.Telling.{Fields, answer_of, numbered_records}

-- a number, or nothing
abbrev pub any_text : Option ℕ → List ℕ
any_text number = option_map_or decimal number []

-- a moment, or nothing
abbrev pub any_moment_text : Option Moment → List ℕ
any_moment_text at = option_map_or (λ m. decimal m.0) at []

-- the number of the line that made the change of this moment, or nothing for one that is only supposed
abbrev pub line_number : List ℕ → Moment → List ℕ
line_number numbers at = any_text (item_at numbers at)

-- a right: table, user, privilege, option, since, by
abbrev pub right_record : Grant → Fields
right_record g =
    g.atom.table ∷ g.grantee.0 ∷ kind_text g.atom.kind ∷ flag_text g.option
    ∷ decimal g.moment.0 ∷ g.grantor.0 ∷ []

-- the right of an owner, who created the table at this moment
abbrev pub owner_record : Name → User → ℕ → Fields
owner_record table owner m =
    table ∷ owner.0 ∷ codes "OWNER" ∷ flag_text true ∷ decimal m ∷ [] ∷ []

-- the record of the owner whose table a change of moment m creates, if it creates one
abbrev pub owner_records_by : ℕ → Change → List Fields
owner_records_by m (change.Create table owner) = owner_record table owner m ∷ []
owner_records_by m (change.Grant by atoms whom option) = []
owner_records_by m (change.Revoke by atoms whom) = []
owner_records_by m (change.RevokeOption by atoms whom) = []
owner_records_by m change.Other = []

-- every right in force: those of the owners, and then the grants
abbrev pub rights_answer : List Change → List ℕ
rights_answer changes =
    answer_of (codes "table,user,privilege,option,since,by\n")
    (numbered_records owner_records_by 1 changes ++ map right_record (in_force_after changes))

-- whether a grant is of one of the atoms
abbrev pub is_of_one : List Atom → Grant → Bool
is_of_one atoms g = list_any (λ atom. same_atom atom g.atom) atoms

-- the grants in force of these atoms
abbrev pub who_answer : List Change → List Atom → List ℕ
who_answer changes atoms =
    answer_of (codes "table,user,privilege,option,since,by\n")
    (map right_record (filter (is_of_one atoms) (in_force_after changes)))

-- how a grant fell: a REVOKE named it, or it fell with others; nothing of one in force
abbrev pub how_text : List Change → Life → List ℕ
how_text changes life = option_map_or
    (λ at. if is_struck_at changes life.grant at then codes "revoked" else codes "fell")
    life.fell []

-- the number of the line by which it fell
abbrev pub revoke_text : List ℕ → Life → List ℕ
revoke_text numbers life = option_map_or (line_number numbers) life.fell []

-- a grant as it was made, when and how it fell, and by which line
abbrev pub fell_record : List Change → List ℕ → Life → Fields
fell_record changes numbers life =
    right_record life.grant
    ++ any_moment_text life.fell ∷ how_text changes life ∷ revoke_text numbers life ∷ []

-- every grant that fell
abbrev pub fell_answer : List Change → List ℕ → List ℕ
fell_answer changes numbers =
    answer_of (codes "table,user,privilege,option,since,by,fell,how,revoke\n")
    (map (fell_record changes numbers) (filter (λ life. is_some life.fell) (lives_of changes)))

-- the same of a grant that fell or stands, from when on it had no option, and the line that made it
abbrev pub grant_record : List Change → List ℕ → Life → Fields
grant_record changes numbers life =
    fell_record changes numbers life
    ++ any_moment_text life.option_end ∷ line_number numbers life.grant.moment ∷ []

-- every grant that was ever made
abbrev pub grants_answer : List Change → List ℕ → List ℕ
grants_answer changes numbers =
    answer_of (codes "table,user,privilege,option,since,by,fell,how,revoke,option_end,line\n")
    (map (grant_record changes numbers) (lives_of changes))

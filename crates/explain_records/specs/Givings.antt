-- The records of whom a user could give privileges to.
use Rattle.std.specs.Prelude.{ℕ, not, if◌then◌else◌, List, [], ◌∷◌, codes, Option, Some, None}
use Rattle.std.specs.List.{flat_map}
use Rattle.std.specs.Option.{option_map_or}
use Rattle.base_core.specs.Users.{same_user}
use Rattle.base_core.specs.declared.name.User.{User}
use Rattle.base_core.specs.declared.privilege.Atom.{Atom}
use Rattle.grants_core.specs.declared.grant.Change.{Change}
use Rattle.grants_core.specs.declared.grant.Change.TheVariants as change
use Rattle.grants_core.specs.Noted.{may_grant_after}
use Rattle.reply_core.specs.Texts.{kind_text}
use Rattle.explain_core.specs.Chains.{holds_after}
use Rattle.explain_core.specs.Listed.{with_user}
use Rattle.explain_records.specs.declared.givings.Gain.{Gain}
use Rattle.explain_records.specs.declared.givings.Gain.TheVariants as gains
use Rattle.explain_records.specs.Telling.{Fields, answer_of}

-- the users whom a change names
abbrev pub users_in : Change → List User
users_in (change.Create table owner) = owner ∷ []
users_in (change.Grant by atoms whom option) = by ∷ whom
users_in (change.Revoke by atoms whom) = by ∷ whom
users_in (change.RevokeOption by atoms whom) = by ∷ whom
users_in change.Other = []

-- those known, and these behind them, each once
abbrev pub with_users : List User → List User → List User
with_users [] known = known
with_users (user ∷ users) known = with_users users (with_user user known)

-- the users whom the changes name, each once, in order
abbrev pub users_named : List Change → List User
users_named changes = with_users (flat_map users_in changes) []

-- what a grant of the atom with the option would give a user: the privilege, or the option alone, or nothing
abbrev pub gain_of : List Change → User → Atom → Option Gain
gain_of changes user atom =
    if not (holds_after changes user atom) then Some gains.Privilege
    else if not (may_grant_after changes user atom) then Some gains.OptionAlone
    else None

abbrev pub gain_text : Gain → List ℕ
gain_text gains.Privilege = codes "privilege"
gain_text gains.OptionAlone = codes "option"

-- what this one could give the user of the atom, who is another: table, by, privilege, user, gives
abbrev pub giving_records : List Change → User → Atom → User → List Fields
giving_records changes by atom user =
    if same_user user by then []
    else option_map_or
    (λ gain. (atom.table ∷ by.0 ∷ kind_text atom.kind ∷ user.0 ∷ gain_text gain ∷ []) ∷ [])
    (gain_of changes user atom) []

-- whom this one could give the atom to, if he may grant it
abbrev pub givings_of : List Change → User → Atom → List Fields
givings_of changes by atom =
    if may_grant_after changes by atom
    then flat_map (giving_records changes by atom) (users_named changes)
    else []

-- the answer to whom he could give these atoms to
abbrev pub can_answer : List Change → User → List Atom → List ℕ
can_answer changes by atoms =
    answer_of (codes "table,by,privilege,user,gives\n") (flat_map (givings_of changes by) atoms)

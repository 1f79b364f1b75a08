-- Users, each once.
use Rattle.std.specs.Prelude.{◌≡◌, is_some, if◌then◌else◌, List, [], ◌∷◌, ◌++◌}
use Rattle.std.specs.List.{list_any}
use Rattle.indexmap.specs.IndexMap.{get}
use Rattle.base_core.specs.Words.{same_name}
use Rattle.base_core.specs.Users.{same_user}
use Rattle.base_core.specs.declared.name.Name.{Name}
use Rattle.base_core.specs.declared.name.User.{User}
use Rattle.explain_core.specs.declared.users.Users.{Users}

-- the users, and this one behind them if he is not among them
abbrev pub with_user : User → List User → List User
with_user user users =
    if list_any (λ v. same_user v user) users then users else users ++ user ∷ []

-- the names that were seen are those of the listed
abbrev pub AreSeen : Users → Type 0
AreSeen users =
    (name : Name)
    → is_some (get same_name users.seen name) ≡ list_any (λ v. same_name v.0 name) users.listed.items

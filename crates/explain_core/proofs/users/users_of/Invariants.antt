use Rattle.std.proofs.Common.{◌≡◌, take}
use Rattle.std.specs.List.{list_any}
use Rattle.base_core.specs.Users.{same_user}
use Rattle.base_core.specs.declared.name.User.{User}
use Rattle.explain_core.specs.Listed.{AreSeen}
use Rattle.explain_core.proofs.users.users_of.Given as goal

abbrev pub invariant-loop-user : goal.invariant-loop-user
invariant-loop-user l = record {
  seen : AreSeen l.made;
  same : (user : User) → list_any (λ v. same_user v user) l.made.listed.items ≡ list_any (λ v. same_user v user) (take l.user-index l.users);
}

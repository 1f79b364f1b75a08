-- Users.
use Rattle.std.specs.Prelude.{Bool}
use Rattle.base_core.specs.Words.{same_name}
use Rattle.base_core.specs.declared.name.User.{User}

-- whether two users are the same
abbrev pub same_user : User → User → Bool
same_user a b = same_name a.0 b.0

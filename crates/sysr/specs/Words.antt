-- The words of a command line.
use Rattle.std.specs.Prelude.{◌≡◌, ℕ, List, ◌++◌, codes, Some}
use Rattle.base_core.specs.Words.{name_of}
use Rattle.base_core.specs.declared.name.User.{User}

-- the word says that this user has a socket file at this place: his name, in any case, `=`, and the place
pub record SaysUserSocket (word : List ℕ) (user : User) (path : List ℕ) : Type 0 where
  pub name : List ℕ
  pub said : word ≡ name ++ (codes "=" ++ path)
  pub named : name_of name ≡ Some user.0

-- Whom a client's first message names.
use Rattle.std.specs.Prelude.{ℕ, Bool, List, Option, codes, find, option_and_then}
use Rattle.std.specs.Str.{bytes_eq}
use Rattle.base_core.specs.Words.{name_of}
use Rattle.base_core.specs.declared.name.Name.{Name}

-- the parameter is called user
abbrev pub is_user_parameter : List ℕ × List ℕ → Bool
is_user_parameter p = bytes_eq p.0 (codes "user")

-- The user whom parameters name: the name that the value of the first such parameter spells, in letters of
-- any case. None: there is none, or its value spells no name.
abbrev pub user_named : List (List ℕ × List ℕ) → Option Name
user_named parameters = option_and_then (λ p. name_of p.1) (find is_user_parameter parameters)

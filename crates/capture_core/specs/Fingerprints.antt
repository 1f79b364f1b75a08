-- Numbers by which grants that are not looked for are told at a glance.
use Rattle.std.specs.Prelude.{ℕ, ◌+◌, ◌*◌, ◌%◌, List, fold}
use Rattle.base_core.specs.declared.name.Name.{Name}
use Rattle.base_core.specs.declared.name.User.{User}
use Rattle.grants_core.specs.declared.grant.Grant.{Grant}

-- a number below 65,521 with one byte more in it
abbrev pub mixed : ℕ → ℕ → ℕ
mixed part byte = (part * 31 + byte) % 65521

-- the number that the bytes of a name make
abbrev pub part_of : List ℕ → ℕ
part_of bytes = fold mixed 0 bytes

-- those of a user and a table, side by side
abbrev pub fingerprint_of : User → Name → ℕ
fingerprint_of user table = part_of user.0 * 65536 + part_of table

-- the fingerprint of a grant: of its grantee and its table
abbrev pub grant_fingerprint : Grant → ℕ
grant_fingerprint g = fingerprint_of g.grantee g.atom.table

-- The codes of lacks.
use Rattle.std.specs.Prelude.{ℕ, Bool, ◌||◌, nat_eq, nat_le}
use Rattle.base_core.specs.declared.lack.Lack.{Lack}
use Rattle.base_core.specs.declared.lack.Lack.TheVariants as lacks

-- the code of each lack
abbrev pub code_of : Lack → ℕ
code_of (lacks.NoTable t) = 11
code_of (lacks.TableExists t) = 12
code_of (lacks.NoColumn t c) = 13
code_of (lacks.NoPrivilege u a) = 14
code_of (lacks.NoGrantOption u a) = 15
code_of (lacks.NoGrant b u a) = 16
code_of (lacks.NoCheckpoint n) = 17
code_of (lacks.NoTableThen t n) = 18
code_of (lacks.NoSelectThen u t) = 19
code_of (lacks.NoSelectNow u t) = 20
code_of (lacks.WrongCount g w) = 21
code_of (lacks.WrongType c w) = 22
code_of (lacks.Full what) = 23
code_of lacks.Busy = 24
code_of lacks.NoMemory = 25
code_of lacks.Worn = 26
code_of (lacks.NoOptionGiven b u a) = 27

-- codes 11 to 20, and 27
abbrev pub is_denial : Lack → Bool
is_denial lack = nat_le (code_of lack) 20 || nat_eq (code_of lack) 27

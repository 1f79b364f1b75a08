-- What an answer says of the verdict.
use Rattle.std.proofs.Common.{◌≡◌, Bool, Option, Some, None, Result, Ok, Err, refl, sym, ap}
use Rattle.std.specs.Result.{result_ok}
use Rattle.base_core.specs.declared.lack.Lack.{Lack}
use Rattle.reader_core.specs.declared.statement.Statement.{Statement}
use Rattle.monitor_core.specs.declared.allowed.Allowed.{Allowed}
use Rattle.monitor_core.specs.Verdict.{Check, is_change, allowed_by}

abbrev change_in : Bool → Result Allowed Lack → Bool
change_in other (Ok a) = a.change
change_in other (Err lack) = other

-- what is allowed has passed
pub passed-allowed : (check : Check) (asked : Statement) (a : Allowed) → allowed_by check asked ≡ Ok a → check ≡ Ok tt
passed-allowed (Ok u) asked a e = refl
passed-allowed (Err lack) asked a e = cc

-- and it is told whether it is a change
pub change-allowed : (check : Check) (asked : Statement) (a : Allowed) → allowed_by check asked ≡ Ok a → a.change ≡ is_change asked
change-allowed (Ok u) asked a e = sym (ap (change_in a.change) e)
change-allowed (Err lack) asked a e = cc

-- a lack that is answered is the verdict's
pub lack-allowed : (check : Check) (asked : Statement) (lack : Lack) → allowed_by check asked ≡ Err lack → check ≡ Err lack
lack-allowed (Ok u) asked lack e = cc
lack-allowed (Err found) asked lack e = cc

-- ---- the same of an answer without the lack
-- what is allowed has passed
pub passed-some : (check : Check) (asked : Statement) (a : Allowed) → result_ok (allowed_by check asked) ≡ Some a → check ≡ Ok tt
passed-some (Ok u) asked a e = refl
passed-some (Err lack) asked a e = cc

abbrev change_told : Bool → Option Allowed → Bool
change_told other (Some a) = a.change
change_told other None = other

-- and it is told whether it is a change
pub change-some : (check : Check) (asked : Statement) (a : Allowed) → result_ok (allowed_by check asked) ≡ Some a → a.change ≡ is_change asked
change-some (Ok u) asked a e = sym (ap (change_told a.change) e)
change-some (Err lack) asked a e = cc

-- nothing is told of what has not passed
pub none-passed : (check : Check) (asked : Statement) → result_ok (allowed_by check asked) ≡ None → check ≡ Ok tt → ⊥
none-passed (Ok u) asked e passed = cc
none-passed (Err lack) asked e passed = cc

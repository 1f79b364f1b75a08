use Rattle.std.proofs.Common.{◌≡◌, take, length}
use Rattle.login_core.specs.Pbkdf2.{exclusive_or}
use Rattle.login_core.proofs.digest.exclusive_or.Given as goal

abbrev pub invariant-loop-i : goal.invariant-loop-i
invariant-loop-i l =
    (take l.i l.both ≡ exclusive_or (take l.i l.first) (take l.i l.second)) × (length l.both ≡ 32)

use Rattle.std.proofs.Common.{◌≡◌, ◌++◌, ◌-◌, replicate, take}
use Rattle.login_core.specs.Hmac.{exclusive_or_each}
use Rattle.login_core.proofs.hmac.pad.Given as goal

abbrev pub invariant-loop-i : goal.invariant-loop-i
invariant-loop-i l = (l.block ≡ exclusive_or_each l.byte (take l.i l.key) ++ replicate (64 - l.i) l.byte)

use Rattle.std.proofs.Common.{◌≡◌, ◌-◌, ◌≤◌}
use Rattle.login_core.specs.Pbkdf2.{exclusive_or_sum, iterate}
use Rattle.login_core.proofs.pbkdf2.salted_password.Given as goal

abbrev pub invariant-loop-i : goal.invariant-loop-i
invariant-loop-i l =
    (l.last ≡ iterate l.password l.salt (l._i - 1)) × (l.key ≡ exclusive_or_sum l.password l.salt (l._i - 1)) × (1 ≤ l._i)

use Rattle.std.proofs.Common.{◌≡◌, ◌∙◌, ◌-◌, ap, arith}
use Rattle.login_core.specs.Pbkdf2.{exclusive_or_sum}
use Rattle.login_core.proofs.Iterates.{next_iterate, next_sum}
use Rattle.login_core.proofs.pbkdf2.salted_password.Goals as goal

pub loop-i-preserved : goal.loop-i-preserved
loop-i-preserved c =
    let last = c.hmac_sha_256-last.ensures ∙ next_iterate c.args.password.now c.args.salt.now c.loop-i.last c.loop-i._i c.loop-i.invariant.2 c.loop-i.invariant.0
    in (last, c.exclusive_or-key.ensures ∙ next_sum c.args.password.now c.args.salt.now c.loop-i.key _ c.loop-i._i c.loop-i.invariant.2 c.loop-i.invariant.1 last, omega (c.loop-i.invariant.2, arith))

pub returns : goal.returns
returns c =
    let e : c.loop-i._i - 1 ≡ c.args.iterations - 1 = omega (c.loop-i-test.false, c.loop-i.auto._i-end, c.requires, arith)
    in c.loop-i.invariant.1 ∙ ap (exclusive_or_sum c.args.password.now c.args.salt.now) e

use Rattle.std.proofs.Common.{◌≡◌, ◌≤◌, ◌+◌, ◌*◌, ℕ, ap, arith, length}
use Rattle.std.proofs.lemmas.Nat.{mul-le}
use Rattle.std.proofs.lemmas.Result.{on_ok_weaker}
use Rattle.grants_core.specs.Content.{Rights, after_grant}
use Rattle.system_core.proofs.machine.carry.grant.Goals as goal

bound : (before atoms users : ℕ) → atoms ≤ 128 → users ≤ 16 → before + atoms * users ≤ before + 2048
bound before atoms users h k = omega (arith, mul-le atoms users 128 16 h k)

pub returns-clause-few : goal.returns-clause-few
returns-clause-few c =
    let few_atoms : length c.deref.result.now ≤ 128 = rw c.deref.ensures.value c.in_ok-atoms.ensures.few in
    let few_users : length c.as_slice.result.now ≤ 16 = rw c.as_slice.ensures.items c.as_slice.ensures.few in
    let within : c.args.rights.now.content.made + length c.deref.result.now * length c.as_slice.result.now ≤ c.args.rights.now.content.made + 2048 = bound c.args.rights.now.content.made (length c.deref.result.now) (length c.as_slice.result.now) few_atoms few_users in
    let made : Rights → ℕ = λ k. k.made in
    on_ok_weaker c.grant.result (λ (e : c.grant.new.self.content ≡ after_grant c.args.rights.now.content c.args.user c.deref.result.now c.as_slice.result.now c.args.option (record { 0 = c.args.moment.0 + 1 })).
    let same : c.grant.new.self.content.made ≡ c.args.rights.now.content.made + length c.deref.result.now * length c.as_slice.result.now = ap made e in
    omega (arith, same, within)) c.grant.ensures.ok

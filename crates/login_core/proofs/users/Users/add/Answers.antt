use Rattle.std.proofs.Common.{rules, ◌<◌, length, ap, arith, Ok, Err}
use Rattle.std.specs.Prelude.{Result, OnOk}
use Rattle.login_core.specs.Users.{SaysUser, most_users}
use Rattle.login_core.proofs.users.Users.add.Goals as goal

on_ok : {T E P Q : Type 0} (r : Result T E) → (P → Q) → OnOk r P → OnOk r Q
on_ok (Ok x) f p = f p
on_ok (Err e) f p = tt

pub returns-in-Some-clause-ok : goal.returns-in-Some-clause-ok
returns-in-Some-clause-ok c =
    let room : length c.args.self.now < most_users = omega (c.if-len-ge-MOST_USERS.false, c.len.ensures.len, ap length c.self.view_is, arith) in
    let says : SaysUser c.args.line.now c.in-Some.user = rw c.in-Some.is at c.in-Ok.ensures in
    on_ok c.enter.result (λ is. (c.in-Some.user, record { says = says; new = is.0; room = room }, is.1)) c.enter.ensures.ok

pub returns-in-None-clause-ok : goal.returns-in-None-clause-ok
returns-in-None-clause-ok c = search rules

use Rattle.std.proofs.Common.{sym, arith}
use Rattle.messages_core.proofs.TextFields.{number32}
use Rattle.messages_core.proofs.Starting.{joined_ok, joined_err}
use Rattle.messages_core.proofs.start.start_in.Goals as goal

pub returns-clause-ok : goal.returns-clause-ok
returns-clause-ok c =
    let t = number32.takes c.args.body.now c.in-Some.code c.in-Some.fields.now (λ i. omega (arith, c.type_inv.body i))
    (sym c.in-Some.ensures) in
    joined_ok c.message_of.result c.args.body.now c.in-Some.code c.in-Some.fields.now t.parts c.message_of.ensures.ok

pub returns-clause-err : goal.returns-clause-err
returns-clause-err c =
    let t = number32.takes c.args.body.now c.in-Some.code c.in-Some.fields.now (λ i. omega (arith, c.type_inv.body i))
    (sym c.in-Some.ensures) in
    joined_err c.message_of.result c.args.body.now c.in-Some.code c.in-Some.fields.now t.parts t.fits
    c.message_of.ensures.err

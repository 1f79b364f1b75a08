use Rattle.std.proofs.Common.{sym, arith}
use Rattle.messages_core.proofs.BodyFields.{cancel_in_body}
use Rattle.messages_core.proofs.Starting.{wrong_cancel, wrong_startup}
use Rattle.messages_core.proofs.start.message_of.Goals as goal

pub returns-in_default-cancel_in-clause-err : goal.returns-in_default-cancel_in-clause-err
returns-in_default-cancel_in-clause-err c =
    wrong_cancel c.args.code c.args.fields.now c.in-80877102.is (sym c.in_default-cancel_in.ensures)

pub returns-in_default-parameters_in-clause-err : goal.returns-in_default-parameters_in-clause-err
returns-in_default-parameters_in-clause-err c =
    wrong_startup c.args.code c.args.fields.now c.in-196608.is c.in_default-parameters_in.ensures.none

pub returns-in-Some-clause-ok : goal.returns-in-Some-clause-ok
returns-in-Some-clause-ok c =
    let t = cancel_in_body.takes c.args.fields.now (c.in-Some.process, c.in-Some.secret)
    (λ i. omega (arith, c.type_inv.fields i)) (sym c.in-Some.ensures) in
    (t.1, c.in-80877102.is, t.0)

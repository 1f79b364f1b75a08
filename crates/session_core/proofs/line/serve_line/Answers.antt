use Rattle.base_core.proofs.Fronts.{on_err}
use Rattle.session_core.specs.Session.{AnswersNoted, BeginsNoted}
use Rattle.session_core.proofs.Telling.{ok_value, begun_then, begun_broken}
use Rattle.session_core.proofs.line.serve_line.Goals as goal

pub returns-in_err-write_rest-in-Ok-clause-err : goal.returns-in_err-write_rest-in-Ok-clause-err
returns-in_err-write_rest-in-Ok-clause-err g c =
    let says = AnswersNoted c.args.desk.now c.args.user c.args.line.now c.args.pass.now c.args.moment.now c.begin_line.new.pass c.begin_line.new.moment in
    let begun = ok_value _ c.in_ok-begun.begun c.in-Ok.pending c.in-Ok.is c.in_ok-begun.ensures.ok in
    on_err c.from_residual-in_err-write_rest-in-Ok.result (begun_broken says c.in-Ok.pending _ _ _ begun c.in_err-write_rest-in-Ok.ensures.1)

pub returns-in_ok-write_rest-in-Ok-clause-ok : goal.returns-in_ok-write_rest-in-Ok-clause-ok
returns-in_ok-write_rest-in-Ok-clause-ok g c =
    let says = AnswersNoted c.args.desk.now c.args.user c.args.line.now c.args.pass.now c.args.moment.now c.begin_line.new.pass c.begin_line.new.moment in
    let begun = ok_value _ c.in_ok-begun.begun c.in-Ok.pending c.in-Ok.is c.in_ok-begun.ensures.ok in
    begun_then says c.in-Ok.pending _ _ _ begun c.in_ok-write_rest-in-Ok.ensures.1

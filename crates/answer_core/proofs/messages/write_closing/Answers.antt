use Rattle.base_core.proofs.Fronts.{front-first, text-broken, text-then}
use Rattle.answer_core.specs.Messages.{closing, command_complete, moment_status}
use Rattle.answer_core.proofs.messages.write_closing.Goals as goal

pub returns-in_err-write_moment : goal.returns-in_err-write_moment
returns-in_err-write_moment g c =
    let r = c.in_err-write_moment.ensures in
    text-broken g.W.Sink.failed g.W.Sink.taken _ _ (closing c.args.tag c.args.count c.args.at.0) c.from_residual.result c.from_residual.ensures.0
    (r.0, front-first _ _ (moment_status c.args.at.0) (command_complete c.args.tag c.args.count) r.1)

pub returns : goal.returns
returns g c =
    text-then g.W.Sink.failed g.W.Sink.taken _ _ _ (moment_status c.args.at.0) (command_complete c.args.tag c.args.count) c.write_complete.result
    c.in_ok-write_moment.ensures.1 c.write_complete.ensures

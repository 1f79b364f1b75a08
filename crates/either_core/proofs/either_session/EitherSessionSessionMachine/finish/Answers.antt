use Rattle.std.proofs.Common.{subst}
use Rattle.lines_core.specs.Serving.{traffic_of}
use Rattle.either_core.specs.Either.{HasComeEither}
use Rattle.either_core.specs.Stopping.{kept_on, unwritten_keeps}
use Rattle.either_core.proofs.Chosen.{still_kept}
use Rattle.either_core.proofs.Finished.{lines_end_well, lines_end_broken, messages_end_well, messages_end_broken}
use Rattle.either_core.proofs.either_session.EitherSessionSessionMachine.finish.Goals as goal

pub returns-in-Lines-clause-ended : goal.returns-in-Lines-clause-ended
returns-in-Lines-clause-ended g c =
    let lines = g.L.SessionMachine in
    let messages = g.M.SessionMachine in
    lines_end_well c.args.desk.now c.args.admission.now (g.W.Sink.taken c.args.writer.now) (g.W.Sink.taken c.finish.new.writer) lines.come messages.come lines.ended messages.ended lines.owes messages.owes
    c.args.self.now c.finish.result c.in-Lines.lines c.finish.new.self c.in-Lines.is c.finish.ensures.ended

pub returns-in-Lines-clause-broken : goal.returns-in-Lines-clause-broken
returns-in-Lines-clause-broken g c =
    let lines = g.L.SessionMachine in
    let messages = g.M.SessionMachine in
    lines_end_broken c.args.desk.now c.args.admission.now (g.W.Sink.taken c.args.writer.now) (g.W.Sink.taken c.finish.new.writer) lines.come messages.come lines.ended messages.ended lines.owes messages.owes
    c.args.self.now c.finish.result c.in-Lines.lines c.finish.new.self c.in-Lines.is c.finish.ensures.broken

pub returns-in-Messages-clause-ended : goal.returns-in-Messages-clause-ended
returns-in-Messages-clause-ended g c =
    let lines = g.L.SessionMachine in
    let messages = g.M.SessionMachine in
    messages_end_well c.args.desk.now c.args.admission.now (g.W.Sink.taken c.args.writer.now) (g.W.Sink.taken c.finish-in-Messages.new.writer) lines.come messages.come lines.ended messages.ended lines.owes messages.owes
    c.args.self.now c.finish-in-Messages.result c.in-Messages.messages c.finish-in-Messages.new.self c.in-Messages.is c.finish-in-Messages.ensures.ended

pub returns-in-Messages-clause-broken : goal.returns-in-Messages-clause-broken
returns-in-Messages-clause-broken g c =
    let lines = g.L.SessionMachine in
    let messages = g.M.SessionMachine in
    messages_end_broken c.args.desk.now c.args.admission.now (g.W.Sink.taken c.args.writer.now) (g.W.Sink.taken c.finish-in-Messages.new.writer) lines.come messages.come lines.ended messages.ended lines.owes messages.owes
    c.args.self.now c.finish-in-Messages.result c.in-Messages.messages c.finish-in-Messages.new.self c.in-Messages.is c.finish-in-Messages.ensures.broken

pub returns-in-Unspoken-clause-ended : goal.returns-in-Unspoken-clause-ended
returns-in-Unspoken-clause-ended g c = λ left left' left'' taken later rest come read end owes wrote.
    let before = g.W.Sink.taken c.args.writer.now in
    let so_far = subst (λ s. HasComeEither g.L.SessionMachine.come g.M.SessionMachine.come c.args.desk.now c.args.admission.now s (traffic_of left left' taken before)) c.in-Unspoken.is come in
    record {
      nothing_read = still_kept left left' left'' so_far.nothing_read read;
      nothing_written = kept_on taken before later rest (unwritten_keeps left taken before so_far.nothing_written) owes wrote;
      at_end = end;
    }

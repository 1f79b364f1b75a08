use Rattle.std.proofs.Common.{rules, subst}
use Rattle.std.specs.Io.KnownBytes.{Consumes}
use Rattle.std.proofs.Math.Seq.{take-length}
use Rattle.lines_core.specs.Serving.{traffic_of}
use Rattle.either_core.specs.Either.{HasComeEither}
use Rattle.either_core.specs.Choosing.{Chooses}
use Rattle.either_core.proofs.Chosen.{lines_come_on, lines_break_off, messages_come_on, messages_break_off, chooses_whole, drops_more}
use Rattle.either_core.proofs.either_session.EitherSessionSessionMachine.feed.Goals as goal

pub returns-in-Lines-clause-fed : goal.returns-in-Lines-clause-fed
returns-in-Lines-clause-fed g c =
    let lines = g.L.SessionMachine in
    let messages = g.M.SessionMachine in
    let chosen = subst (Chooses lines.state messages.state lines.come messages.come c.args.piece.now c.args.self.now) c.in-Lines.is c.choose.ensures in
    lines_come_on lines.state messages.state lines.come messages.come g.met.L.SessionMachine.come_unseen g.met.M.SessionMachine.come_unseen c.args.desk.now c.args.admission.now lines.ended messages.ended
    c.args.self.now c.args.piece.now (g.W.Sink.taken c.args.writer.now) (g.W.Sink.taken c.feed.new.writer) c.in-Lines.lines c.feed.new.self chosen c.feed.result c.feed.ensures.some c.feed.ensures.fed

pub returns-in-Lines-clause-broken : goal.returns-in-Lines-clause-broken
returns-in-Lines-clause-broken g c =
    let lines = g.L.SessionMachine in
    let messages = g.M.SessionMachine in
    let chosen = subst (Chooses lines.state messages.state lines.come messages.come c.args.piece.now c.args.self.now) c.in-Lines.is c.choose.ensures in
    lines_break_off lines.state messages.state lines.come messages.come g.met.L.SessionMachine.come_unseen g.met.M.SessionMachine.come_unseen c.args.desk.now c.args.admission.now lines.ended messages.ended
    c.args.self.now c.args.piece.now (g.W.Sink.taken c.args.writer.now) (g.W.Sink.taken c.feed.new.writer) c.in-Lines.lines c.feed.new.self chosen c.feed.result c.feed.ensures.broken

pub returns-in-Messages-clause-fed : goal.returns-in-Messages-clause-fed
returns-in-Messages-clause-fed g c =
    let lines = g.L.SessionMachine in
    let messages = g.M.SessionMachine in
    let chosen = subst (Chooses lines.state messages.state lines.come messages.come c.args.piece.now c.args.self.now) c.in-Messages.is c.choose.ensures in
    messages_come_on lines.state messages.state lines.come messages.come g.met.L.SessionMachine.come_unseen g.met.M.SessionMachine.come_unseen c.args.desk.now c.args.admission.now lines.ended messages.ended
    c.args.self.now c.args.piece.now (g.W.Sink.taken c.args.writer.now) (g.W.Sink.taken c.feed-in-Messages.new.writer) c.in-Messages.messages c.feed-in-Messages.new.self chosen c.feed-in-Messages.result c.feed-in-Messages.ensures.some c.feed-in-Messages.ensures.fed

pub returns-in-Messages-clause-broken : goal.returns-in-Messages-clause-broken
returns-in-Messages-clause-broken g c =
    let lines = g.L.SessionMachine in
    let messages = g.M.SessionMachine in
    let chosen = subst (Chooses lines.state messages.state lines.come messages.come c.args.piece.now c.args.self.now) c.in-Messages.is c.choose.ensures in
    messages_break_off lines.state messages.state lines.come messages.come g.met.L.SessionMachine.come_unseen g.met.M.SessionMachine.come_unseen c.args.desk.now c.args.admission.now lines.ended messages.ended
    c.args.self.now c.args.piece.now (g.W.Sink.taken c.args.writer.now) (g.W.Sink.taken c.feed-in-Messages.new.writer) c.in-Messages.messages c.feed-in-Messages.new.self chosen c.feed-in-Messages.result c.feed-in-Messages.ensures.broken

pub returns-in-Lost-clause-fed : goal.returns-in-Lost-clause-fed
returns-in-Lost-clause-fed g c = λ left left' left'' taken come read.
    let lines = g.L.SessionMachine in
    let messages = g.M.SessionMachine in
    let desk = c.args.desk.now in
    let admission = c.args.admission.now in
    let before = g.W.Sink.taken c.args.writer.now in
    let whole = subst (Consumes left' left'') (take-length c.args.piece.now) read in
    let now = chooses_whole lines.state messages.state lines.come messages.come g.met.L.SessionMachine.come_unseen g.met.M.SessionMachine.come_unseen desk admission
    left left' left'' taken before c.args.piece.now c.args.self.now c.choose.new.self c.choose.ensures come whole in
    let so_far = subst (λ s. HasComeEither lines.come messages.come desk admission s (traffic_of left now.between taken before)) c.in-Lost.is now.come in
    drops_more c.in-Lost.unread left now.between left'' taken before c.args.piece.now (search rules) so_far now.read

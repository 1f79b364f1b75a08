use Rattle.std.proofs.Common.{◌≡◌, List, ◌++◌, Err, sym, ap, ◌∙◌, subst}
use Rattle.lines_core.specs.Serving.{traffic_of}
use Rattle.lines_core.specs.declared.serving.SessionFault.TheVariants as faults
use Rattle.session_core.specs.Machines.{OwesLess}
use Rattle.wire_core.specs.State.{ClientState, WireState, calls_owed}
use Rattle.wire_core.specs.Coming.{HasAnswered, HasStopped}
use Rattle.wire_core.proofs.Going.{come_broken, come_on, on_ok, owes_less, when_broken}
use Rattle.wire_core.proofs.wire_session.WireSessionSessionMachine.go_on.Goals as goal

pub returns-clause-progress : goal.returns-clause-progress
returns-clause-progress g c =
    let some = c.is_owing.ensures.0 c.if-not-is_owing.false in
    on_ok c.go_on.result c.go_on.ensures.progress (λ less.
    subst (λ (w : WireState g.row.K.Denot). OwesLess (calls_owed w.sending.items) (calls_owed c.go_on.new.self.sending.items)) c.self.view_is
    (owes_less c.self.inside.client.sending.items c.go_on.new.self.sending.items some less))

pub returns-clause-went_on : goal.returns-clause-went_on
returns-clause-went_on g c =
    let ok = c.go_on.ensures.ok in
    on_ok c.go_on.result ok (λ writes desk admission left left' taken come.
    let here = subst (λ (w : WireState g.row.K.Denot). HasAnswered desk admission w (traffic_of left left' taken (g.W.Sink.taken c.args.writer.now))) (sym c.self.view_is) come in
    subst (λ (s : ClientState). HasAnswered desk admission (record { kept = c.self.inside.kept.items; unread = c.self.inside.unread; client = s; sending = c.go_on.new.self.sending; note = c.self.inside.note }) (traffic_of left left' taken (g.W.Sink.taken c.go_on.new.writer))) (sym c.go_on.ensures.state)
    (come_on desk admission _ c.go_on.new.self.state.talk.lefts c.go_on.new.self.sending writes.text left left' taken (g.W.Sink.taken c.args.writer.now) (g.W.Sink.taken c.go_on.new.writer) here writes.is writes.wrote))

pub returns-clause-broken : goal.returns-clause-broken
returns-clause-broken g c =
    let err = c.go_on.ensures.err in
    when_broken c.go_on.result err (λ writes desk admission left left' taken come.
    let here = subst (λ (w : WireState g.row.K.Denot). HasAnswered desk admission w (traffic_of left left' taken (g.W.Sink.taken c.args.writer.now))) (sym c.self.view_is) come in
    subst (λ (s : ClientState). HasStopped desk admission (record { kept = c.self.inside.kept.items; unread = c.self.inside.unread; client = s; sending = c.go_on.new.self.sending; note = c.self.inside.note }) (Err faults.Write) (traffic_of left left' taken (g.W.Sink.taken c.go_on.new.writer))) (sym c.go_on.ensures.state)
    (come_broken desk admission _ c.go_on.new.self.state.talk.lefts c.go_on.new.self.sending writes.text left left' taken (g.W.Sink.taken c.args.writer.now) (g.W.Sink.taken c.go_on.new.writer) here writes.is writes.wrote))

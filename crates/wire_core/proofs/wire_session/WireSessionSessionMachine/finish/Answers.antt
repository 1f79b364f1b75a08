use Rattle.std.proofs.Common.{◌≡◌, List, Option, None, Some, sym, ap, ◌∙◌, subst}
use Rattle.lines_core.specs.Serving.{traffic_of}
use Rattle.desk_core.specs.Guarded.{DeskNote}
use Rattle.session_core.specs.Parking.{Meets, pass_note}
use Rattle.sending_core.specs.declared.item.Item.{Item}
use Rattle.wire_core.specs.State.{WireState}
use Rattle.wire_core.specs.Coming.{HasAnswered}
use Rattle.wire_core.proofs.Going.{come_last, nothing_owed}
use Rattle.wire_core.proofs.wire_session.WireSessionSessionMachine.finish.Goals as goal

pub returns-clause-ended : goal.returns-clause-ended
returns-clause-ended g c = λ left left' left'' taken later rest come read end owed wrote.
    let desk = c.args.desk.now in
    let met = c.meet.new.pass in
    let own = c.meet.ensures.watches.same.0 ∙ c.requires.pass in
    let here = subst (λ (w : WireState g.row.K.Denot). HasAnswered desk c.args.admission.now w (traffic_of left left' taken (g.W.Sink.taken c.args.writer.now))) (sym c.self.view_is) come in
    let noted : Some c.note.result ≡ Some (pass_note desk met)
    = ap (λ (n : DeskNote g.row.K.Denot). Some n) (c.note.ensures.told ∙ (λ i. record { lock = own i; seen = met.seen; mark = met.mark })) in
    come_last desk c.args.admission.now c.self.inside.kept.items c.self.inside.unread c.self.inside.client.state c.self.inside.client.sending c.self.inside.note None met left left' left'' taken (g.W.Sink.taken c.args.writer.now) here
    (ap (λ (w : WireState g.row.K.Denot). w.sending.items) c.self.view_is ∙ nothing_owed c.args.self.now.sending.items c.requires.free)
    (subst (Meets met) c.take.ensures.value c.meet.ensures.met) own rest later (Some c.note.result) noted read end owed wrote

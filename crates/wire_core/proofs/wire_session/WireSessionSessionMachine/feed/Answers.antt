use Rattle.std.proofs.Common.{◌≡◌, ◌+◌, ◌-◌, ℕ, List, Option, Some, None, Ok, take, length, sym, ap, ◌∙◌, subst, refl, arith}
use Rattle.std.proofs.lemmas.List.{length-take-le}
use Rattle.lines_core.specs.Serving.{traffic_of}
use Rattle.base_core.specs.declared.name.User.{User}
use Rattle.desk_core.specs.Guarded.{DeskPass, DeskNote}
use Rattle.session_core.specs.Parking.{GainsFor, Meets, pass_note}
use Rattle.wire_core.specs.State.{IsFront, WireState}
use Rattle.wire_core.specs.Coming.{HasAnswered, IsFed}
use Rattle.wire_core.proofs.Going.{come_more, gains_on, nothing_owed, passes_lock, renoted}
use Rattle.wire_core.proofs.wire_session.WireSessionSessionMachine.feed.Goals as goal

pub returns-clause-gained : goal.returns-clause-gained
returns-clause-gained g c =
    let user = ap (λ (w : WireState g.row.K.Denot). w.client.user) c.self-2.view_is in
    subst (λ (z : Option User × DeskPass g.row.K.Denot). GainsFor z.0 c.args.pass.now z.1) (λ i. (sym user i, sym c.note.ensures.same i))
    (gains_on c.take-taken.new.self.client.user c.args.pass.now c.meet.new.pass c.take-taken.new.pass c.meet.ensures.watches c.take-taken.ensures.gained)

pub returns-clause-fed : goal.returns-clause-fed
returns-clause-fed g c = λ left left' left'' taken come read.
    let desk = c.args.desk.now in
    let met = c.meet.new.pass in
    let own = c.meet.ensures.watches.same.0 ∙ c.requires.pass in
    let view = c.self-2.view_is in
    let unread = ap (λ (w : WireState g.row.K.Denot). w.unread) view ∙ c.take-taken.ensures.unread in
    let room = c.requires.room in
    let told = ap (λ (w : WireState g.row.K.Denot). w.unread) c.self.view_is in
    let took = c.take-taken.ensures.took in
    let size = length-take-le c.take-taken.result c.args.piece.now took in
    let here = subst (λ (w : WireState g.row.K.Denot). HasAnswered desk c.args.admission.now w (traffic_of left left' taken (g.W.Sink.taken c.args.writer.now))) (sym c.self.view_is) come in
    let lock = passes_lock c.take-taken.new.self.client.user met c.take-taken.new.pass c.take-taken.ensures.gained ∙ own in
    let after = c.take-taken.new.pass in
    let noted : Some c.note.result ≡ Some (pass_note desk after)
    = ap (λ (n : DeskNote g.row.K.Denot). Some n) (c.note.ensures.told ∙ (λ i. record { lock = lock i; seen = after.seen; mark = after.mark })) in
    let new : WireState g.row.K.Denot = record {
      kept = c.self-2.inside.kept.items;
      unread = c.self-2.inside.unread - c.take-taken.result;
      client = c.self-2.inside.client.state;
      sending = c.self-2.inside.client.sending;
      note = Some c.note.result;
    } in
    let fed = subst (λ (w : WireState g.row.K.Denot). IsFed desk c.args.admission.now (record { kept = c.self.inside.kept.items; unread = c.self.inside.unread; client = c.self.inside.client.state; sending = c.self.inside.client.sending; note = c.take.new.self }) met (take c.take-taken.result c.args.piece.now) w after) (sym view) c.take-taken.ensures.fed in
    come_more desk c.args.admission.now _ _ _ _ _ c.take.new.self met left left' left'' taken (g.W.Sink.taken c.args.writer.now) here
    (ap (λ (w : WireState g.row.K.Denot). w.sending.items) c.self.view_is ∙ nothing_owed c.args.self.now.sending.items c.requires.free)
    (subst (Meets met) c.take.ensures.value c.meet.ensures.met) own (take c.take-taken.result c.args.piece.now) new after read
    (omega (arith, unread, room, told, took, size)) c.self-2.invariant noted (renoted fed)

use Rattle.std.proofs.Common.{None, Ok, Err, sym, ap, ◌∙◌, subst}
use Rattle.std.proofs.Math.Logic.{∥∥₁_map}
use Rattle.lines_core.specs.declared.serving.SessionFault.TheVariants as faults
use Rattle.server_core.specs.Sessions.{nothing_known, lock_told}
use Rattle.server_core.proofs.Pieces.{none_owed, same_value, serves}
use Rattle.server_core.proofs.parked_session.ParkedSession.feed.Goals as goal

pub feed-requires-clause-free : goal.feed-requires-clause-free
feed-requires-clause-free g c = none_owed _ (sym c.is_owing.ensures ∙ c.if-is_owing.false)

pub returns-in_default : goal.returns-in_default
returns-in_default g c =
    let law = g.met.I.Session.SessionMachine in
    let desk = c.args.desk.now in
    let admission = c.args.self.admission in
    let session = c.feed.new.self in
    let state = g.I.Session.SessionMachine.state session in
    let before = g.W.Sink.taken c.args.writer.now in
    let after = g.W.Sink.taken c.feed.new.writer in
    serves g.I.Session.SessionMachine.protocol g.I.Instance.by desk admission c.args.pass.now c.feed.new.pass state.user state.note c.args.self.admitted
    (∥∥₁_map c.args.self.come (λ come. law.spoken desk admission session (Err faults.Write) nothing_known (law.ended_unseen desk admission session (Err faults.Write) after None
    (c.in_default.ensures.broken None None None None (law.come_unseen desk admission c.args.self.parked None before (come desk c.requires.desk)) tt))))
    c.feed.ensures.noted c.feed.ensures.gained

pub returns-then-is_over : goal.returns-then-is_over
returns-then-is_over g c =
    let law = g.met.I.Session.SessionMachine in
    let desk = c.args.desk.now in
    let admission = c.args.self.admission in
    let session = c.feed.new.self in
    let state = g.I.Session.SessionMachine.state session in
    let rest = law.payable session in
    let before = g.W.Sink.taken c.args.writer.now in
    let after = g.W.Sink.taken c.feed.new.writer in
    serves g.I.Session.SessionMachine.protocol g.I.Instance.by desk admission c.args.pass.now c.feed.new.pass state.user state.note c.args.self.admitted
    (∥∥₁_map c.args.self.come (λ come. law.spoken desk admission session (Ok tt) nothing_known (law.stops desk admission session (Ok tt) None None None None None rest.0
    (law.come_unseen desk admission session after None (c.in-Ok.ensures.fed None None None None (law.come_unseen desk admission c.args.self.parked None before (come desk c.requires.desk)) tt))
    rest.1 tt (sym c.is_over.ensures ∙ c.if-is_over.true))))
    c.feed.ensures.noted c.feed.ensures.gained

pub returns-then-unread-eq0 : goal.returns-then-unread-eq0
returns-then-unread-eq0 g c =
    let law = g.met.I.Session.SessionMachine in
    let desk = c.args.desk.now in
    let admission = c.args.self.admission in
    let session = c.feed.new.self in
    let state = g.I.Session.SessionMachine.state session in
    let rest = law.payable session in
    let before = g.W.Sink.taken c.args.writer.now in
    let after = g.W.Sink.taken c.feed.new.writer in
    serves g.I.Session.SessionMachine.protocol g.I.Instance.by desk admission c.args.pass.now c.feed.new.pass state.user state.note c.args.self.admitted
    (∥∥₁_map c.args.self.come (λ come. law.spoken desk admission session (Err faults.Bound) nothing_known (law.stops desk admission session (Err faults.Bound) None None None None None rest.0
    (law.come_unseen desk admission session after None (c.in-Ok.ensures.fed None None None None (law.come_unseen desk admission c.args.self.parked None before (come desk c.requires.desk)) tt))
    rest.1 tt (sym c.unread-2.ensures ∙ c.if-unread-eq0.true))))
    c.feed.ensures.noted c.feed.ensures.gained

pub returns : goal.returns
returns g c =
    let law = g.met.I.Session.SessionMachine in
    let desk = c.args.desk.now in
    let admission = c.args.self.admission in
    let session = c.feed.new.self in
    let state = g.I.Session.SessionMachine.state session in
    let before = g.W.Sink.taken c.args.writer.now in
    let after = g.W.Sink.taken c.feed.new.writer in
    serves g.I.Session.SessionMachine.protocol g.I.Instance.by desk admission c.args.pass.now c.feed.new.pass state.user state.note c.args.self.admitted
    (∥∥₁_map c.args.self.come (λ come. law.spoken desk admission session (Err faults.Write) nothing_known (law.breaks desk admission session None None None None
    (law.come_unseen desk admission session after None (c.in-Ok.ensures.fed None None None None (law.come_unseen desk admission c.args.self.parked None before (come desk c.requires.desk)) tt)))))
    c.feed.ensures.noted c.feed.ensures.gained

pub invariant_of-session : goal.invariant_of-session
invariant_of-session g c =
    let law = g.met.I.Session.SessionMachine in
    let desk = c.args.desk.now in
    let admission = c.args.self.admission in
    let session = c.feed.new.self in
    let before = g.W.Sink.taken c.args.writer.now in
    let after = g.W.Sink.taken c.feed.new.writer in
    record {
      admitted = c.args.self.admitted;
      come = ∥∥₁_map c.args.self.come (λ come other is. subst (λ d. g.I.Session.SessionMachine.come d admission session nothing_known) (same_value desk other (sym c.requires.desk ∙ is))
          (law.come_unseen desk admission session after None (c.in-Ok.ensures.fed None None None None (law.come_unseen desk admission c.args.self.parked None before (come desk c.requires.desk)) tt)));
      noted = ap (λ n. lock_told g.I.Instance.desk n) c.feed.ensures.noted ∙ sym c.requires.desk;
    }

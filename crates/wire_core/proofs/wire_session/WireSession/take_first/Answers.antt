use Rattle.std.proofs.Common.{◌≡◌, ℕ, List, [], ◌++◌, length, take, refl, sym, ap, ◌∙◌, subst, arith}
use Rattle.wire_core.specs.State.{ClientAndQueue, IsFront, WireState, gone}
use Rattle.wire_core.specs.Coming.{IsFed}
use Rattle.desk_core.specs.Guarded.{DeskPass}
use Rattle.wire_core.proofs.Fed.{exhausted_fed}
use Rattle.wire_core.proofs.Fronts.{nothing_front}
use Rattle.wire_core.proofs.wire_session.WireSession.take_first.Goals as goal

pub invariant_of-self : goal.invariant_of-self
invariant_of-self g c =
    let nothing = ap (λ (w : WireState g.row.K.Denot). w.kept) c.self.view_is ∙ c.requires.kept in
    subst (λ (k : List ℕ). IsFront c.hear.new.self.state k) (sym nothing) (nothing_front c.hear.new.self.state)

pub returns-in-Some-clause-front : goal.returns-in-Some-clause-front
returns-in-Some-clause-front g c =
    let nothing = ap (λ (w : WireState g.row.K.Denot). w.kept) c.self.view_is ∙ c.requires.kept in
    subst (λ (k : List ℕ). IsFront c.hear.new.self.state k) (sym nothing) (nothing_front c.hear.new.self.state)

pub returns-in_default-extend_from_slice-clause-fed : goal.returns-in_default-extend_from_slice-clause-fed
returns-in_default-extend_from_slice-clause-fed g c =
    let nothing = ap (λ (w : WireState g.row.K.Denot). w.kept) c.self.view_is ∙ c.requires.kept in
    let unheard = c.in_default.ensures.heard in
    let client = c.run_out.ensures.state ∙ ap (λ (z : ClientAndQueue). gone z.state) unheard.0.same ∙ ap (λ (w : WireState g.row.K.Denot). gone w.client) c.self.view_is in
    subst (λ (after : DeskPass g.row.K.Denot). IsFed c.args.lent.now.desk.now c.args.admission.now c.args.self.now c.args.pass.now (take (length c.args.piece.now) c.args.piece.now) (record {
      kept = c.extend_from_slice.new.self.items;
      unread = c.self.inside.unread;
      client = c.run_out.new.self.state;
      sending = c.run_out.new.self.sending;
      note = c.self.inside.note;
    }) after) (sym unheard.1)
    (exhausted_fed c.args.lent.now.desk.now c.args.admission.now c.args.self.now _ c.args.pass.now (take (length c.args.piece.now) c.args.piece.now) c.requires.open
    (c.in_default-extend_from_slice.ensures.items ∙ nothing) c.run_out.ensures.items client)

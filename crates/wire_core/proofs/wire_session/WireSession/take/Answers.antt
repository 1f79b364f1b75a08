use Rattle.std.proofs.Common.{◌≡◌, Bool, ℕ, List, [], ◌++◌, length, take, refl, sym, ap, ◌∙◌, subst, arith}
use Rattle.wire_core.specs.State.{IsFront, IsFrontIn, WireState, gone}
use Rattle.wire_core.specs.Running.{IsHeard, StandsBefore}
use Rattle.wire_core.proofs.Fed.{exhausted_fed, heard_fed, over_fed}
use Rattle.wire_core.proofs.Fronts.{nothing_front}
use Rattle.wire_core.proofs.wire_session.WireSession.take.Goals as goal

pub invariant_of-self-in-Some-1 : goal.invariant_of-self-in-Some-1
invariant_of-self-in-Some-1 g c =
    subst (λ (k : List ℕ). IsFront c.hear.new.self.state k) (sym (ap (λ v. v.items) c.replace-came.ensures.after ∙ c.new.ensures.items)) (nothing_front c.hear.new.self.state)

pub returns-in-Some-clause-front : goal.returns-in-Some-clause-front
returns-in-Some-clause-front g c =
    subst (λ (k : List ℕ). IsFront c.hear.new.self.state k) (sym (ap (λ v. v.items) c.replace-came.ensures.after ∙ c.new.ensures.items)) (nothing_front c.hear.new.self.state)

pub returns-then-is_over-clause-fed : goal.returns-then-is_over-clause-fed
returns-then-is_over-clause-fed g c =
    let inside_over = sym c.is_over.ensures ∙ c.if-is_over.true in
    let over = ap (λ (w : WireState g.row.K.Denot). w.client.talk.over) (sym c.self.view_is) ∙ inside_over in
    let nothing : c.self.inside.kept.items ≡ []
    = subst (λ (b : Bool). IsFrontIn b c.self.inside.client.state.user c.self.inside.client.state.claimed c.self.inside.kept.items) inside_over c.self.invariant in
    over_fed c.args.lent.now.desk.now c.args.admission.now c.args.self.now c.args.self.now c.args.pass.now (take (length c.args.piece.now) c.args.piece.now) over
    (ap (λ (w : WireState g.row.K.Denot). w.kept) (sym c.self.view_is) ∙ nothing) c.requires.free

pub returns-in_default-clause-fed : goal.returns-in_default-clause-fed
returns-in_default-clause-fed g c =
    let opened = ap (λ (w : WireState g.row.K.Denot). w.client.talk.over) (sym c.self.view_is) ∙ (sym c.is_over.ensures ∙ c.if-is_over.false) in
    exhausted_fed c.args.lent.now.desk.now c.args.admission.now c.args.self.now _ c.args.pass.now (take (length c.args.piece.now) c.args.piece.now) opened
    (ap (λ v. v.items) c.replace-came.ensures.after ∙ c.new.ensures.items) c.run_out.ensures.items
    (c.run_out.ensures.state ∙ ap (λ (w : WireState g.row.K.Denot). gone w.client) c.self.view_is)

pub returns-in-Some-clause-fed : goal.returns-in-Some-clause-fed
returns-in-Some-clause-fed g c =
    let kept = ap (λ (w : WireState g.row.K.Denot). w.kept) c.self.view_is in
    let came : c.as_slice.result.now ≡ c.args.self.now.kept ++ c.args.piece.now
    = c.as_slice.ensures.value ∙ (c.in-Ok.ensures.items ∙ ap (λ (k : List ℕ). k ++ c.args.piece.now) (ap (λ v. v.items) c.replace-came.ensures.value ∙ kept)) in
    let client = ap (λ (w : WireState g.row.K.Denot). w.client) c.self.view_is in
    heard_fed c.args.lent.now.desk.now c.args.admission.now c.args.self.now (record {
      kept = c.replace-came.new.dest.items;
      unread = c.self.inside.unread;
      client = c.hear.new.self.state;
      sending = c.hear.new.self.sending;
      note = c.self.inside.note;
    }) c.args.pass.now c.hear.new.pass c.args.piece.now c.self.inside.client c.in-Some.rest
    (subst (λ (b : List ℕ). IsHeard c.args.lent.now.desk.now c.args.admission.now c.self.inside.client c.args.pass.now b c.in-Some.rest c.hear.new.self c.hear.new.pass) came c.in-Some.ensures.heard)
    (subst (λ (b : List ℕ). StandsBefore c.self.inside.client.state b c.in-Some.rest) came c.in-Some.ensures.first)
    (subst (λ (w : WireState g.row.K.Denot). IsFront w.client w.kept) c.self.view_is c.self.invariant)
    client
    (ap (λ v. v.items) c.replace-came.ensures.after ∙ c.new.ensures.items)

use Rattle.std.proofs.Common.{◌≡◌, ℕ, ◌<◌, Bool, Option, List, [], ◌++◌, length, refl, sym, ap, ◌∙◌, subst, inl, inr, append-nil, arith}
use Rattle.base_core.specs.declared.name.Name.{Name}
use Rattle.base_core.specs.declared.name.User.{User}
use Rattle.wire_core.specs.State.{ClientAndQueue, ClientState, IsFrontIn}
use Rattle.sending_core.specs.declared.item.Item.{Item}
use Rattle.wire_core.specs.declared.client.TheConstants.{MOST_BODY_BYTES}
use Rattle.wire_core.specs.Running.{IsHeard, IsNoMessage, Takes, entered, faulty, said}
use Rattle.wire_core.proofs.Fronts.{part_of_message}
use Rattle.wire_core.proofs.Answering.{talked}
use Rattle.wire_core.proofs.client.Client.hear_user.Goals as goal

pub returns-in-Whole-clause-heard : goal.returns-in-Whole-clause-heard
returns-in-Whole-clause-heard g c = λ admission.
    let found = c.in-Whole.ensures in
    let new : ClientAndQueue = record {
      state = record { claimed = c.self.inside.claimed; begun = c.self.inside.begun; user = c.self.inside.user; talk = c.answer.new.self.state };
      sending = c.answer.new.self.sending;
    } in
    subst (λ (z : ClientAndQueue). IsHeard c.args.lent.now.desk.now admission z c.args.pass.now c.args.came.now (length c.as_slice-rest.result.now) new c.answer.new.pass) c.self.view_is
    (record {
      first = _;
      behind = c.in-Whole.rest;
      cut = found.said;
      rest_is = ap length (sym c.as_slice-rest.ensures);
      takes = said c.args.user c.in-Whole.message
          (ap (λ (z : ClientAndQueue). z.state.talk.over) c.self.view_is ∙ c.requires.open)
          (ap (λ (z : ClientAndQueue). z.state.user) c.self.view_is ∙ c.requires.user) found.is refl c.answer.ensures.comes;
    })

pub returns-in-Whole-clause-first : goal.returns-in-Whole-clause-first
returns-in-Whole-clause-first g c = λ kept piece came front.
    let found = c.in-Whole.ensures in
    let size = ap length c.as_slice-rest.ensures in
    let less = part_of_message MOST_BODY_BYTES kept piece c.in-Whole.rest c.in-Whole.message (sym came ∙ found.said) found.is.1 (omega arith)
    (subst (λ (z : Bool × Option User). IsFrontIn z.0 z.1 c.args.self.now.state.claimed kept) (λ i. (c.requires.open i, c.requires.user i)) front) in
    inr (omega (arith, less, size))

pub returns-in-Faulty-clause-heard : goal.returns-in-Faulty-clause-heard
returns-in-Faulty-clause-heard g c = λ admission.
    let user = ap (λ (z : ClientAndQueue). z.state.user) c.self.view_is ∙ c.requires.user in
    let opened = ap (λ (z : ClientAndQueue). z.state.talk.over) c.self.view_is ∙ c.requires.open in record {
      first = c.args.came.now;
      behind = [];
      cut = sym (append-nil c.args.came.now);
      rest_is = refl;
      takes =
          talked (λ (old : ClientState) (items : List Item) (new : ClientState). Takes c.args.lent.now.desk.now admission old c.args.pass.now c.args.came.now items new c.args.pass.now) _ _ c.self.view_is c.requires.free _ _ _ _ c.end.ensures.items c.end.ensures.state
          (entered opened (faulty (subst (λ (u : Option User). IsNoMessage u c.self.inside.claimed c.args.came.now) (sym user) (c.in-Faulty.field-0, c.in-Faulty.ensures))));
    }

use Rattle.std.proofs.Common.{◌≡◌, ℕ, ◌<◌, Bool, Option, List, [], ◌++◌, length, refl, sym, ap, ◌∙◌, subst, inl, inr, append-nil, arith}
use Rattle.base_core.specs.declared.name.Name.{Name}
use Rattle.base_core.specs.declared.name.User.{User}
use Rattle.wire_core.specs.State.{ClientAndQueue, ClientState, IsFrontIn}
use Rattle.sending_core.specs.declared.item.Item.{Item}
use Rattle.wire_core.specs.declared.client.TheConstants.{MOST_LOGIN_BYTES}
use Rattle.wire_core.specs.Running.{Enters, IsEntered, IsNoMessage, faulty, messaged}
use Rattle.wire_core.proofs.Fronts.{part_of_message}
use Rattle.wire_core.proofs.Answering.{talked}
use Rattle.wire_core.proofs.client.Client.hear_login.Goals as goal

pub returns-in-Whole-clause-heard : goal.returns-in-Whole-clause-heard
returns-in-Whole-clause-heard c =
    let found = c.in-Whole.ensures in record {
      first = _;
      behind = c.in-Whole.rest;
      cut = found.said;
      rest_is = ap length (sym c.as_slice-rest.ensures);
      enters = messaged c.args.name c.in-Whole.message c.requires.user c.requires.claimed found.is refl c.log_in.ensures;
    }

pub returns-in-Whole-clause-first : goal.returns-in-Whole-clause-first
returns-in-Whole-clause-first c = λ kept piece came front.
    let found = c.in-Whole.ensures in
    let size = ap length c.as_slice-rest.ensures in
    let less = part_of_message MOST_LOGIN_BYTES kept piece c.in-Whole.rest c.in-Whole.message (sym came ∙ found.said) found.is.1 (omega arith)
    (subst (λ (z : Bool × Option User × Option Name). IsFrontIn z.0 z.1 z.2 kept) (λ i. (c.requires.open i, c.requires.user i, c.requires.claimed i)) front) in
    inr (omega (arith, less, size))

pub returns-in-Faulty-clause-heard : goal.returns-in-Faulty-clause-heard
returns-in-Faulty-clause-heard c =
    let user = ap (λ (z : ClientAndQueue). z.state.user) c.self.view_is ∙ c.requires.user in
    let claimed = ap (λ (z : ClientAndQueue). z.state.claimed) c.self.view_is ∙ c.requires.claimed in record {
      first = c.args.came.now;
      behind = [];
      cut = sym (append-nil c.args.came.now);
      rest_is = refl;
      enters =
          talked (λ (old : ClientState) (items : List Item) (new : ClientState). Enters c.args.admission.now old c.args.came.now items new) _ _ c.self.view_is c.requires.free _ _ _ _ c.end.ensures.items c.end.ensures.state
          (faulty (subst (λ (z : Option User × Option Name). IsNoMessage z.0 z.1 c.args.came.now) (λ i. (sym user i, sym claimed i)) (c.in-Faulty.field-0, c.in-Faulty.ensures)));
    }

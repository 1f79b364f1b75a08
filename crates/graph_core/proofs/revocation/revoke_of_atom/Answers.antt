use Rattle.std.proofs.Common.{◌≡◌, ◌∙◌, ◌∷◌, [], ◌+◌, ap, sym, drop}
use Rattle.std.proofs.lemmas.List.{drop_more, drop_all}
use Rattle.grants_core.specs.Valid.{valid}
use Rattle.graph_core.specs.Revocation.{grants_of_links, grants_after}
use Rattle.graph_core.proofs.FallLemmas.{in_order_under, supported_under}
use Rattle.graph_core.proofs.NamedLemmas.{upheld_valid}
use Rattle.graph_core.proofs.LossLemmas.{lost_between, after-user, after-nobody, after-by, after-missing}
use Rattle.graph_core.proofs.revocation.revoke_of_atom.Goals as goal

pub returns-in_default-clause-valid : goal.returns-in_default-clause-valid
returns-in_default-clause-valid c =
    after-by c.args.loss c.args.indices.now c.args.owners.now c.args.by.now (c.args.atom.now ∷ []) c.args.whom.now c.args.links.now.links c.requires c.in_default.ensures.index

pub returns-in_default-atom-clause-valid : goal.returns-in_default-atom-clause-valid
returns-in_default-atom-clause-valid c =
    after-missing c.args.loss c.args.indices.now c.args.owners.now c.args.by.now c.args.atom.now c.args.whom.now c.args.links.now.links c.requires c.in_default-atom.ensures

pub revoke_between-requires-clause-in_order : goal.revoke_between-requires-clause-in_order
revoke_between-requires-clause-in_order c = in_order_under c.args.indices.now c.loop-user.links.links c.loop-user.invariant.upheld.in_order

pub revoke_between-requires-clause-supported : goal.revoke_between-requires-clause-supported
revoke_between-requires-clause-supported c =
    supported_under c.args.indices.now c.user.ensures.apart c.args.owners.now c.owner_index-owner.result c.args.atom.now c.in-Some-atom.at c.owner_index-owner.ensures c.in-Some-atom.ensures c.loop-user.links.links c.loop-user.invariant.upheld

pub loop-user-preserved : goal.loop-user-preserved
loop-user-preserved c =
    let indexed = c.args.indices.now in
    let owners = c.args.owners.now in
    let by = c.args.by.now in
    let atom = c.args.atom.now in
    let user = c.user-item.result in
    let now = c.loop-user.links.links in
    let new = c.revoke_between.new.links.links in
    let rest = drop (c.loop-user.user-index + 1) c.args.whom.now in
    let here : drop c.loop-user.user-index c.args.whom.now ≡ user ∷ rest =
    drop_more c.args.whom.now c.loop-user.user-index user c.loop-user-test.true ∙ ap (λ u. u ∷ rest) (sym c.user-item.is) in
    let lost = lost_between c.args.loss indexed c.user.ensures.apart owners by user atom c.owner_index-owner.result c.in-Some.by c.user-in-loop-user.result c.in-Some-atom.at
    c.owner_index-owner.ensures c.in-Some.ensures.index c.user-in-loop-user.ensures.index c.in-Some-atom.ensures
    now new c.loop-user.invariant.upheld c.revoke_between.ensures.in_order c.revoke_between.ensures.falls c.revoke_between.ensures.supported in
    record {
      upheld = lost.upheld;
      valid_is = after-user c.args.loss owners by (atom ∷ []) user rest (grants_of_links indexed now) (grants_of_links indexed new) lost.valid_is
          ∙ ap (λ users. valid owners (grants_after c.args.loss by (atom ∷ []) users (grants_of_links indexed now))) (sym here) ∙ c.loop-user.invariant.valid_is;
      next = c.revoke_between.ensures.next ∙ c.loop-user.invariant.next;
      rest = c.revoke_between.ensures.rest ∙ c.loop-user.invariant.rest;
    }

pub returns-clause-valid : goal.returns-clause-valid
returns-clause-valid c =
    let owners = c.args.owners.now in
    let one = c.args.atom.now ∷ [] in
    let now = grants_of_links c.args.indices.now c.loop-user.links.links in
    let none : drop c.loop-user.user-index c.args.whom.now ≡ [] = drop_all c.loop-user.user-index c.args.whom.now c.loop-user-test.false in
    sym (upheld_valid c.args.indices.now owners c.loop-user.links.links c.loop-user.invariant.upheld)
    ∙ ap (valid owners) (sym (after-nobody c.args.loss c.args.by.now one now))
    ∙ ap (λ users. valid owners (grants_after c.args.loss c.args.by.now one users now)) (sym none) ∙ c.loop-user.invariant.valid_is

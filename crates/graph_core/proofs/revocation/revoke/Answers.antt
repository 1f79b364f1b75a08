use Rattle.std.proofs.Common.{◌≡◌, ◌∙◌, ◌∷◌, [], ◌+◌, ap, sym, drop}
use Rattle.std.proofs.lemmas.List.{drop_more, drop_all}
use Rattle.grants_core.specs.Valid.{valid}
use Rattle.graph_core.specs.Revocation.{grants_of_links, grants_after}
use Rattle.graph_core.proofs.NamedLemmas.{upheld_valid}
use Rattle.graph_core.proofs.LossLemmas.{after-atom, after-nothing}
use Rattle.graph_core.proofs.revocation.revoke.Goals as goal

pub loop-atom-preserved : goal.loop-atom-preserved
loop-atom-preserved c =
    let owners = c.args.owners.now in
    let whom = c.args.whom.now in
    let by = c.args.by.now in
    let now = grants_of_links c.args.indices.now c.loop-atom.links.links in
    let rest = drop (c.loop-atom.atom-index + 1) c.args.atoms.now in
    let here : drop c.loop-atom.atom-index c.args.atoms.now ≡ c.atom-item.result ∷ rest =
    drop_more c.args.atoms.now c.loop-atom.atom-index c.atom-item.result c.loop-atom-test.true ∙ ap (λ a. a ∷ rest) (sym c.atom-item.is) in
    record {
      upheld = c.revoke_of_atom.ensures.upheld;
      valid_is = after-atom c.args.loss owners by c.atom-item.result rest whom now (grants_of_links c.args.indices.now c.revoke_of_atom.new.links.links) c.revoke_of_atom.ensures.valid
          ∙ ap (λ atoms. valid owners (grants_after c.args.loss by atoms whom now)) (sym here) ∙ c.loop-atom.invariant.valid_is;
      next = c.revoke_of_atom.ensures.next ∙ c.loop-atom.invariant.next;
      rest = c.revoke_of_atom.ensures.rest ∙ c.loop-atom.invariant.rest;
    }

pub returns-clause-valid : goal.returns-clause-valid
returns-clause-valid c =
    let owners = c.args.owners.now in
    let now = grants_of_links c.args.indices.now c.loop-atom.links.links in
    let none : drop c.loop-atom.atom-index c.args.atoms.now ≡ [] = drop_all c.loop-atom.atom-index c.args.atoms.now c.loop-atom-test.false in
    sym (upheld_valid c.args.indices.now owners c.loop-atom.links.links c.loop-atom.invariant.upheld)
    ∙ ap (valid owners) (sym (after-nothing c.args.loss c.args.by.now c.args.whom.now now))
    ∙ ap (λ atoms. valid owners (grants_after c.args.loss c.args.by.now atoms c.args.whom.now now)) (sym none) ∙ c.loop-atom.invariant.valid_is

use Rattle.std.proofs.Common.{◌≡◌, ◌+◌, ◌++◌, ap, sym, ◌∙◌, drop, length, ◌∷◌}
use Rattle.std.proofs.lemmas.List.{drop_more}
use Rattle.grants_core.specs.Content.{singles}
use Rattle.grants_core.proofs.SinglesLemmas.{singles-more}
use Rattle.grants_core.proofs.singles.single_grants.Goals as goal

pub loop-atom-preserved : goal.loop-atom-preserved
loop-atom-preserved c =
    let rest = drop (c.loop-atom.atom-index + 1) c.args.atoms.now in
    let here : drop c.loop-atom.atom-index c.args.atoms.now ≡ c.atom-item.result ∷ rest =
    drop_more c.args.atoms.now c.loop-atom.atom-index c.atom-item.result c.loop-atom-test.true ∙ ap (λ a. a ∷ rest) (sym c.atom-item.is) in
    rw c.in_ok-push_each.ensures (singles-more c.loop-atom.grants.items c.args.first c.args.at c.args.by.now c.atom-item.result rest c.args.whom.now c.args.option
    ∙ ap (λ more. c.loop-atom.grants.items ++ singles (c.args.first + length c.loop-atom.grants.items) c.args.at c.args.by.now more c.args.whom.now c.args.option) (sym here) ∙ c.loop-atom.invariant)

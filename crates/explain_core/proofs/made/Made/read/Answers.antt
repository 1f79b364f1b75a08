use Rattle.std.proofs.Common.{◌≡◌, ◌+◌, ◌++◌, ℕ, List, [], ◌∷◌, ap, sym, ◌∙◌, take, length, arith}
use Rattle.std.proofs.lemmas.List.{take_more, length-take}
use Rattle.grants_core.specs.declared.grant.Change.{Change}
use Rattle.grants_core.specs.History.{owners_after, owners_with, granted, grants_of, made_by_all}
use Rattle.grants_core.proofs.HistoryLemmas.{owners-more, granted-more, length-granted}
use Rattle.explain_core.proofs.made.Made.read.Goals as goal

pub loop-change-preserved : goal.loop-change-preserved
loop-change-preserved c =
    let i : ℕ = c.loop-change.change-index in
    let m : ℕ = c.loop-change.moment + 1 in
    let change : Change = c.change-item.result in
    let sofar : List Change = take i c.args.changes.now in
    let invariant = c.loop-change.invariant in
    let more : take (i + 1) c.args.changes.now ≡ sofar ++ change ∷ [] =
    take_more c.args.changes.now i change c.loop-change-test.true ∙ ap (λ x. sofar ++ x ∷ []) (sym c.change-item.is) in
    let count : 1 + length sofar ≡ m = omega (arith, length-take i c.args.changes.now) in
    let made : length c.loop-change.made.grants.items ≡ made_by_all sofar = ap length invariant.grants ∙ length-granted sofar in
    record {
      counted = omega arith;
      owners = c.in-Ok.ensures.owners ∙ ap (λ o. owners_with o change) invariant.owners ∙ sym (ap owners_after more ∙ owners-more sofar change);
      grants = c.in-Ok.ensures.grants
          ∙ ap (λ k. k ++ grants_of (length c.loop-change.made.grants.items) m change) invariant.grants
          ∙ ap (λ n. granted sofar ++ grants_of n m change) made
          ∙ sym (ap granted more ∙ granted-more sofar change ∙ ap (λ n. granted sofar ++ grants_of (made_by_all sofar) n change) count);
    }

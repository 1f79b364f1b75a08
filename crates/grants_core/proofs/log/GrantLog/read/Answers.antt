use Rattle.std.proofs.Common.{◌≡◌, ◌+◌, ◌≤◌, ◌++◌, ◌||◌, ℕ, List, [], ◌∷◌, ap, sym, ◌∙◌, subst, take, length, ltb, arith}
use Rattle.std.proofs.lemmas.Bool.{le-ltb}
use Rattle.std.proofs.lemmas.List.{take_more, length-take}
use Rattle.grants_core.specs.declared.grant.Grant.{Grant}
use Rattle.grants_core.specs.declared.grant.Change.{Change}
use Rattle.grants_core.specs.History.{owners_after, owners_with, granted, grants_of, is_struck, is_struck_by, is_unoptioned, is_unoptioned_by, made_by_all}
use Rattle.grants_core.specs.Log.{noted_revocation}
use Rattle.grants_core.proofs.HistoryLemmas.{owners-more, granted-more, length-granted, is_struck-more, is_unoptioned-more}
use Rattle.grants_core.proofs.LogLemmas.{noted_revocation-none, struck-later, unoptioned-later, last_struck-early, last_unoptioned-early}
use Rattle.grants_core.proofs.log.GrantLog.read.Goals as goal

pub loop-change-init : goal.loop-change-init
loop-change-init c =
    let at_none : (g : Grant) → noted_revocation c.new-3.result g ≡ 0 = λ g. noted_revocation-none c.new-3.result g c.new-3.ensures.empty in
    let at_none_either : (g : Grant) → noted_revocation c.new-4.result g ≡ 0 = λ g. noted_revocation-none c.new-4.result g c.new-4.ensures.empty in
    record {
      counted = search arith;
      read = record {
        owners = c.new.ensures;
        made = c.new-2.ensures.items;
        struck = λ g. ap (ltb g.moment.0) (at_none g) ∙ le-ltb g.moment.0 0 (omega arith);
        unoptioned = λ g. ap (ltb g.moment.0) (at_none_either g) ∙ le-ltb g.moment.0 0 (omega arith);
      };
      struck = λ g. let e = at_none g in omega (arith, e);
      unoptioned = λ g. let e = at_none_either g in omega (arith, e);
    }

pub loop-change-preserved : goal.loop-change-preserved
loop-change-preserved c =
    let i : ℕ = c.loop-change.change-index in
    let m : ℕ = c.loop-change.moment + 1 in
    let change : Change = c.change-item.result in
    let sofar : List Change = take i c.args.changes.now in
    let read = c.loop-change.invariant.read in
    let more : take (i + 1) c.args.changes.now ≡ sofar ++ change ∷ [] =
    take_more c.args.changes.now i change c.loop-change-test.true ∙ ap (λ x. sofar ++ x ∷ []) (sym c.change-item.is) in
    let count : 1 + length sofar ≡ m = omega (arith, length-take i c.args.changes.now) in
    let made : length c.loop-change.log.made.items ≡ made_by_all sofar = ap length read.made ∙ length-granted sofar in
    let struck_early : (g : Grant) → noted_revocation c.loop-change.log.struck g ≤ m = λ g. let e = c.loop-change.invariant.struck g in omega (arith, e) in
    let unoptioned_early : (g : Grant) → noted_revocation c.loop-change.log.unoptioned g ≤ m = λ g. let e = c.loop-change.invariant.unoptioned g in omega (arith, e) in
    let Early : ℕ → Type 0 = λ n. n ≤ m in
    record {
      counted = omega arith;
      read = record {
        owners = c.in_ok-enter.ensures.owners ∙ ap (λ o. owners_with o change) read.owners ∙ sym (ap owners_after more ∙ owners-more sofar change);
        made = c.in_ok-enter.ensures.made
            ∙ ap (λ k. k ++ grants_of (length c.loop-change.log.made.items) m change) read.made
            ∙ ap (λ n. granted sofar ++ grants_of n m change) made
            ∙ sym (ap granted more ∙ granted-more sofar change ∙ ap (λ n. granted sofar ++ grants_of (made_by_all sofar) n change) count);
        struck = λ g. ap (ltb g.moment.0) (c.in_ok-enter.ensures.struck g)
            ∙ struck-later m change g (noted_revocation c.loop-change.log.struck g) (struck_early g)
            ∙ ap (λ b. b || is_struck_by m change g) (read.struck g)
            ∙ sym (ap (λ cs. is_struck cs g) more ∙ is_struck-more sofar change g ∙ ap (λ n. is_struck sofar g || is_struck_by n change g) count);
        unoptioned = λ g. ap (ltb g.moment.0) (c.in_ok-enter.ensures.unoptioned g)
            ∙ unoptioned-later m change g (noted_revocation c.loop-change.log.unoptioned g) (unoptioned_early g)
            ∙ ap (λ b. b || is_unoptioned_by m change g) (read.unoptioned g)
            ∙ sym (ap (λ cs. is_unoptioned cs g) more ∙ is_unoptioned-more sofar change g ∙ ap (λ n. is_unoptioned sofar g || is_unoptioned_by n change g) count);
      };
      struck = λ g. subst Early (sym (c.in_ok-enter.ensures.struck g)) (last_struck-early m change g (noted_revocation c.loop-change.log.struck g) (struck_early g));
      unoptioned = λ g. subst Early (sym (c.in_ok-enter.ensures.unoptioned g)) (last_unoptioned-early m change g (noted_revocation c.loop-change.log.unoptioned g) (unoptioned_early g));
    }

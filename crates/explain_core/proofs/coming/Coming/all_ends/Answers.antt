use Rattle.std.proofs.Common.{◌≡◌, ◌+◌, ◌-◌, ◌<◌, ◌≤◌, ◌++◌, ℕ, List, [], ◌∷◌, ap, sym, ◌∙◌, subst, map, reverse, drop, length, get_or, arith}
use Rattle.std.specs.List.{AllPairs}
use Rattle.std.proofs.lemmas.List.{drop_all, drop_more, length-take, get_or-take, get_or_default, reverse-append}
use Rattle.std.proofs.lemmas.List.Elements.{All-take, All-same}
use Rattle.grants_core.specs.declared.grant.Grant.{Grant}
use Rattle.grants_core.specs.declared.grant.Change.{Change}
use Rattle.grants_core.specs.History.{granted}
use Rattle.explain_core.specs.Ends.{next_ends, end_at}
use Rattle.grants_core.specs.Log.{noted_revocation}
use Rattle.explain_core.proofs.EndLemmas.{noted-ends}
use Rattle.explain_core.proofs.MadeLemmas.{NoLater, in_order-granted, moment-granted}
use Rattle.explain_core.proofs.coming.Coming.all_ends.Goals as goal

pub loop-at-init : goal.loop-at-init
loop-at-init c =
    let changes : List Change = c.args.changes.now in
    let made : List Grant = c.args.made.now in
    let n : ℕ = length changes in
    let left : drop (length made) made ≡ [] = drop_all (length made) made (omega arith) in
    let Early : Grant → Type 0 = λ g. g.moment.0 ≤ n in
    record {
      within = omega arith;
      noted = c.requires.noted;
      early = All-take Early (length made) made (All-same Early made (granted changes) c.requires.made (moment-granted changes));
      found = c.new-ends.ensures.items ∙ sym (ap (λ gs. reverse (map (next_ends changes) gs)) left);
    }

pub loop-at-preserved : goal.loop-at-preserved
loop-at-preserved c =
    let changes : List Change = c.args.changes.now in
    let made : List Grant = c.args.made.now in
    let at : ℕ = c.loop-at.at in
    let g : Grant = get_or made (at - 1) c.index-made-at.result in
    let there : at - 1 < length made = let e = c.loop-at.auto.at in let t = c.loop-at-test.true in omega arith in
    let Early : Grant → Type 0 = λ h. h.moment.0 ≤ length changes in
    let Pairs : List Grant → Type 0 = λ gs. AllPairs NoLater gs in
    let ordered : Pairs made = subst Pairs (sym c.requires.made) (in_order-granted changes) in
    let noted = c.in_ok-go_back.ensures in
    let same : c.index-made-at-in-loop-at.result ≡ g = c.index-made-at-in-loop-at.is ∙ get_or_default made (at - 1) c.index-made-at-in-loop-at.result c.index-made-at.result there in
    let one : c.ends.result ≡ next_ends changes g =
    noted-ends changes g c.go_back.new.self c.ends.result noted
    (c.ends.ensures.struck ∙ ap (λ h. end_at (noted_revocation c.go_back.new.self.struck h)) same)
    (c.ends.ensures.unoptioned ∙ ap (λ h. end_at (noted_revocation c.go_back.new.self.unoptioned h)) same) in
    let next : (at - 1) + 1 ≡ at = let t = c.loop-at-test.true in omega arith in
    let rest : drop (at - 1) made ≡ g ∷ drop at made =
    drop_more made (at - 1) c.index-made-at.result there ∙ ap (λ n. g ∷ drop n made) next in
    record {
      within = All-same Early made (granted changes) c.requires.made (moment-granted changes) (at - 1) c.index-made-at.result there;
      noted = noted;
      early = λ k d within.
          let count = length-take (at - 1) made in
          let before : k < at - 1 = omega arith in
          let AtMost : Grant → Type 0 = λ h. h.moment.0 ≤ g.moment.0 in
          let sooner : (get_or made k d).moment.0 ≤ (get_or made (at - 1) d).moment.0 = ordered k (at - 1) d before there in
          let other : get_or made (at - 1) d ≡ g = get_or_default made (at - 1) d c.index-made-at.result there in
          let NoMore : Grant → Type 0 = λ h. (get_or made k d).moment.0 ≤ h.moment.0 in
          subst AtMost (sym (get_or-take (at - 1) made k d before)) (subst NoMore other sooner);
      found = c.in_ok-push.ensures.items
          ∙ ap (λ es. es ++ c.ends.result ∷ []) c.loop-at.invariant.found
          ∙ ap (λ e. reverse (map (next_ends changes) (drop at made)) ++ e ∷ []) one
          ∙ sym (ap (λ gs. reverse (map (next_ends changes) gs)) rest ∙ reverse-append (next_ends changes g ∷ []) (map (next_ends changes) (drop at made)));
    }

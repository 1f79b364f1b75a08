use Rattle.std.proofs.Common.{◌≡◌, ◌≤◌, ◌<◌, ◌+◌, ◌++◌, ◌∙◌, true, arith, rules, ℕ, List, ap, sym, subst, drop, take, length, length-append}
use Rattle.std.specs.List.{All}
use Rattle.std.proofs.lemmas.List.{length-take-le}
use Rattle.base_core.specs.declared.name.User.{User}
use Rattle.explain_core.specs.Losses.{holds_without, others_than}
use Rattle.explain_core.proofs.NeededLemmas.{tried-stays, tried-left_out, loss-left_out, half-some}
use Rattle.explain_core.proofs.cut.Standing.needed.Goals as goal
use Rattle.explain_core.proofs.cut.Standing.needed.Goals.{then-from-tried, else-from-tried}

pub loop-tried-preserved-then-not-branch : goal.loop-tried-preserved-then-not-branch
loop-tried-preserved-then-not-branch c =
    let o = c.args.self.now.owners.now in
    let grants = c.args.self.now.grants.now in
    let atom = c.args.self.now.atom.now in
    let user = c.args.user.now in
    let by = c.args.by.now in
    let xs = c.loop-tried.needed.items in
    let rest = c.in_ok-rest.rest.items in
    let from : ℕ = c.saturating_sub-from.result in
    let to : ℕ = c.loop-tried.tried in
    let some : from ≤ to = omega (arith, c.saturating_sub-from.ensures) in
    let is_rest : rest ≡ take from xs ++ drop to xs = c.in_ok-rest.ensures ∙ ap (λ k. take from k ++ drop to k) c.deref.ensures.value in
    let Holds = λ (k : List User). holds_without o grants atom user by k in
    let told = ap Holds (sym c.deref-in-loop-tried.ensures.value) ∙ sym c.in_ok-holds_without.ensures in
    let lost = told ∙ c.if-not-branch.true in
    let long : length rest ≡ length (take from xs) + length (drop to xs) = ap length is_rest ∙ length-append (take from xs) (drop to xs) in
    let front : length (take from xs) ≡ from = length-take-le from xs (omega (arith, some, c.loop-tried.invariant.within)) in
    record {
      within = omega (arith, long, front);
      some = omega (arith, c.saturating_mul-step.ensures, c.loop-tried.invariant.some);
      loss = loss-left_out o grants atom user by xs from to some c.loop-tried.invariant.within rest is_rest c.loop-tried.invariant.loss lost;
      tried = tried-left_out o grants atom user by xs from to some c.loop-tried.invariant.within rest is_rest c.loop-tried.invariant.tried;
    }

pub loop-tried-preserved : goal.loop-tried-preserved
loop-tried-preserved c =
    let o = c.args.self.now.owners.now in
    let grants = c.args.self.now.grants.now in
    let atom = c.args.self.now.atom.now in
    let user = c.args.user.now in
    let by = c.args.by.now in
    let xs = c.loop-tried.needed.items in
    let rest = c.in_ok-rest.rest.items in
    let from : ℕ = c.saturating_sub-from.result in
    let to : ℕ = c.loop-tried.tried in
    let some : from ≤ to = omega (arith, c.saturating_sub-from.ensures) in
    let is_rest : rest ≡ take from xs ++ drop to xs = c.in_ok-rest.ensures ∙ ap (λ k. take from k ++ drop to k) c.deref.ensures.value in
    let Holds = λ (k : List User). holds_without o grants atom user by k in
    let told = ap Holds (sym c.deref-in-loop-tried.ensures.value) ∙ sym c.in_ok-holds_without.ensures in
    let enough = told ∙ c.if-not-branch.false in
    let inv = c.loop-tried.invariant in
    let Tried : User → Type 0 = λ v. holds_without o grants atom user by (others_than v xs) ≡ true in
    let From : ℕ → Type 0 = λ n. All Tried (drop n xs) in
    elim c.if-from-tried.branch [
      | then-from-tried w ↦
          let one : from + 1 ≡ to = search rules in
          let at_one : rest ≡ take from xs ++ drop (from + 1) xs = is_rest ∙ ap (λ n. take from xs ++ drop n xs) (sym one) in
          let here = tried-stays o grants atom user by xs from (omega (arith, one, inv.within)) rest at_one enough (subst From (sym one) inv.tried) in
          record {
            within = omega (arith, w.tried-is, some, inv.within);
            some = omega (arith, w.step-is);
            loss = inv.loss;
            tried = subst From (sym w.tried-is) here;
          }
      | else-from-tried w ↦
          let less : from < to = omega (arith, c.saturating_sub-from.ensures, inv.some, c.loop-tried-test.true) in
          record {
            within = omega (arith, w.tried-is, inv.within);
            some = half-some from to c.if-from-tried.step less w.if-from-tried.false w.step-is;
            loss = inv.loss;
            tried = subst From (sym w.tried-is) inv.tried;
          }
    ]

pub returns-clause-needed : goal.returns-clause-needed
returns-clause-needed c =
    let none : c.loop-tried.tried ≡ 0 = omega (arith, c.loop-tried-test.false) in
    let xs = c.loop-tried.needed.items in
    let Tried : User → Type 0 = λ v. holds_without c.args.self.now.owners.now c.args.self.now.grants.now c.args.self.now.atom.now c.args.user.now c.args.by.now (others_than v xs) ≡ true in
    let From : ℕ → Type 0 = λ n. All Tried (drop n xs) in
    subst From none c.loop-tried.invariant.tried

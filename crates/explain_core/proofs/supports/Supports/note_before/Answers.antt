use Rattle.std.proofs.Common.{◌≡◌, ◌+◌, ◌<◌, ◌≤◌, ℕ, List, Some, Option, length, get_or, take, slice_get, ap, sym, ◌∙◌, subst, arith}
use Rattle.std.specs.List.{All}
use Rattle.std.proofs.lemmas.List.Elements.{All-more}
use Rattle.std.proofs.lemmas.Option.{slice_get_within, slice_get-get_or, same_Some}
use Rattle.indexmap.specs.IndexMap.{get}
use Rattle.grants_core.specs.Keys.{same_holding}
use Rattle.explain_core.specs.declared.life.Life.{Life}
use Rattle.explain_core.specs.declared.supports.Support.{Support}
use Rattle.explain_core.specs.Supports.{IsLongest}
use Rattle.explain_core.proofs.LongestLemmas.{longest-more}
use Rattle.explain_core.proofs.supports.Supports.note_before.Goals as goal

pub loop-self-preserved : goal.loop-self-preserved
loop-self-preserved c =
    let lives : List Life = c.args.lives.now in
    let n : ℕ = c.loop-self.self.noted in
    let life : Life = c.index-lives-self-in-loop-self.result in
    let same : c.note.new.self.noted ≡ n = c.in_ok-note.ensures.noted in
    let invariant = c.loop-self.invariant in
    let at : slice_get lives n ≡ Some life = slice_get-get_or lives n life c.loop-self-test.true ∙ ap Some (sym c.index-lives-self-in-loop-self.is) in
    let Early : Life → Type 0 = λ l. l.grant.moment.0 < c.args.moment.0 in
    let first : get_or lives n life ≡ get_or lives n c.index-lives-self.result =
    same_Some _ _ (sym (slice_get-get_or lives n life c.loop-self-test.true) ∙ slice_get-get_or lives n c.index-lives-self.result c.loop-self-test.true) in
    let Taken : ℕ → Type 0 = λ k. All Early (take (k + 1) lives) in
    record {
      longest = record {
        within = omega arith;
        longest = λ w.
            let old : Option Support = get same_holding c.loop-self.self.longest w in
            let Is : Option Support → Type 0 = λ s. IsLongest lives (n + 1) w s in
            let At : ℕ → Type 0 = λ k. IsLongest lives (k + 1) w (get same_holding c.note.new.self.longest w) in
            subst At (sym same) (subst Is (sym (c.in_ok-note.ensures.longest w)) (longest-more lives n life w at old (invariant.longest.longest w)));
      };
      early = subst Taken (sym same) (All-more Early lives n life c.loop-self-test.true invariant.early (subst Early (sym first) c.if-lives-self.true));
    }

pub returns-else-lives-self-clause-all : goal.returns-else-lives-self-clause-all
returns-else-lives-self-clause-all c = λ life at.
    let lives : List Life = c.args.lives.now in
    let n : ℕ = c.loop-self.self.noted in
    let is : get_or lives n c.index-lives-self.result ≡ life =
    same_Some _ _ (sym (slice_get-get_or lives n c.index-lives-self.result c.loop-self-test.true) ∙ at) in
    let Late : Life → Type 0 = λ l. c.args.moment.0 ≤ l.grant.moment.0 in
    subst Late is c.if-lives-self.false

pub returns-after-loop-self-clause-all : goal.returns-after-loop-self-clause-all
returns-after-loop-self-clause-all c = λ life at.
    let inside : c.loop-self.self.noted < length c.args.lives.now = slice_get_within c.args.lives.now c.loop-self.self.noted life at in
    let past = c.loop-self-test.false in
    absurd (omega (arith, inside, past))

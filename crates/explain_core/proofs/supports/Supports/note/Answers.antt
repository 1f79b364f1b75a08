use Rattle.std.proofs.Common.{◌≡◌, true, sym, ◌∙◌, subst}
use Rattle.indexmap.specs.IndexMap.{get}
use Rattle.grants_core.specs.declared.key.Holding.{Holding}
use Rattle.grants_core.specs.Keys.{same_holding, given_by}
use Rattle.grants_core.specs.KeyLaws.{same_holding-true}
use Rattle.explain_core.specs.Supports.{outlasts}
use Rattle.explain_core.proofs.LongestLemmas.{noted-where_given}
use Rattle.explain_core.proofs.supports.Supports.note.Goals as goal

pub returns-in_ok-insert-clause-longest : goal.returns-in_ok-insert-clause-longest
returns-in_ok-insert-clause-longest c = λ w.
    let old = c.args.self.now.longest in
    let mine : Holding = given_by c.args.life.now.grant in
    let Lasts : Holding → Type 0 = λ k. outlasts c.args.life.now.option_end (get same_holding old k) ≡ true in
    let lasts : Lasts mine = sym c.is_outlasted.ensures ∙ c.if-is_outlasted.true in
    c.in_ok-insert.ensures.updates.0 w
    ∙ noted-where_given c.args.place c.args.life.now w (get same_holding old w) c.if-not-life.false
    (λ same. subst Lasts (same_holding-true mine w same) lasts)

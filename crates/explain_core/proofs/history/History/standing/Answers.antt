use Rattle.std.proofs.Common.{◌≡◌, ◌∙◌, ◌&&◌, ℕ, Some, is_none, ap, sym, subst}
use Rattle.std.specs.List.{list_any, slice_get}
use Rattle.std.proofs.lemmas.List.{take_all}
use Rattle.grants_core.specs.Content.{gives}
use Rattle.explain_core.specs.Lives.{lives_of}
use Rattle.explain_core.proofs.LifeLemmas.{none_told, life-number, gives-lives}
use Rattle.explain_core.proofs.SupportLemmas.{explained, is_life}
use Rattle.explain_core.proofs.history.History.standing.Goals as goal

pub returns-then-gives : goal.returns-then-gives
returns-then-gives c =
    let h = explained _ _ c.self.view_is c.self.invariant in
    let same = c.deref-life-items.ensures.value in
    let at = is_life _ _ _ _ h c.loop-life.life-index c.life-item.result (rw same at c.loop-life-test.true) (rw same at c.life-item.is) in
    let At : ℕ → Type 0 = λ k. slice_get (lives_of c.args.self.now) k ≡ Some c.life-item.result in
    (c.life-item.result, subst At (sym (life-number c.args.self.now c.loop-life.life-index c.life-item.result at)) at, none_told c.life-item.result.fell c.is_none.result c.is_none.ensures c.if-is_none.true, sym c.gives.ensures ∙ c.if-gives.true)

pub returns : goal.returns
returns c =
    let h = explained _ _ c.self.view_is c.self.invariant in
    let all = take_all c.loop-life.life-index c.deref-life-items.result.now c.loop-life-test.false ∙ c.deref-life-items.ensures.value ∙ h.lives_are in
    gives-lives c.args.self.now c.args.user.now c.args.atom.now h.lawful
    ∙ ap (list_any (λ life. is_none life.fell && gives c.args.user.now c.args.atom.now life.grant)) (sym all)
    ∙ c.loop-life.invariant

use Rattle.std.proofs.Common.{◌∙◌, ◌&&◌, ap, filter, map, is_none, List}
use Rattle.std.proofs.lemmas.List.{take_all}
use Rattle.explain_core.specs.Life.{left}
use Rattle.explain_core.specs.Losses.{is_of_atom}
use Rattle.explain_core.specs.declared.life.Life.{Life}
use Rattle.explain_core.proofs.LifeLemmas.{left-of}
use Rattle.explain_core.proofs.SupportLemmas.{explained}
use Rattle.explain_core.proofs.history.History.standing_of.Goals as goal

pub returns : goal.returns
returns c =
    let h = explained _ _ c.self.view_is c.self.invariant in
    let all = take_all c.loop-life.life-index c.deref-life-items.result.now c.loop-life-test.false ∙ c.deref-life-items.ensures.value ∙ h.lives_are in
    c.loop-life.invariant ∙ ap (λ (k : List Life). map left (filter (λ life. is_none life.fell && is_of_atom c.args.atom.now life.grant) k)) all
    ∙ left-of c.args.self.now c.args.atom.now h.lawful

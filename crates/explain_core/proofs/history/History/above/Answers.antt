use Rattle.std.proofs.Common.{◌∙◌, ap, sym}
use Rattle.explain_core.specs.declared.life.Life.{Life}
use Rattle.explain_core.specs.Branches.{is_named_in_line}
use Rattle.explain_core.proofs.LifeLemmas.{life-number}
use Rattle.explain_core.proofs.SupportLemmas.{explained, support_of, same_life}
use Rattle.explain_core.proofs.DescentLemmas.{above-unnamed}
use Rattle.explain_core.proofs.history.History.above.Goals as goal

pub returns : goal.returns
returns c = λ life at.
    let h = explained _ _ c.self.view_is c.self.invariant in
    let read = same_life _ _ _ _ h c.args.place life c.index.result.now at c.index.ensures in
    let unnamed = ap (λ (l : Life). is_named_in_line c.args.change.now c.args.is_last l.grant) (sym read) ∙ sym c.is_named.ensures ∙ c.if-is_named.false in
    above-unnamed c.args.self.now c.args.change.now c.args.is_last c.args.place life c.index-2.result.now
    (life-number c.args.self.now c.args.place life at) unnamed
    (support_of _ _ _ _ h c.args.place life c.index-2.result.now at c.index-2.ensures)

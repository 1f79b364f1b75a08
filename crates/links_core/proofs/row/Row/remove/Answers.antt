use Rattle.std.proofs.Common.{◌-◌, ◌+◌, ◌++◌, ◌∙◌, [], take, drop, length, length-drop, ap, refl, arith}
use Rattle.links_core.specs.Ends.{EndsState}
use Rattle.links_core.proofs.RowLemmas.{spliced_behind, moved_up}
use Rattle.links_core.proofs.row.Row.remove.Goals.{then-place-ends, else-place-ends}
use Rattle.links_core.proofs.row.Row.remove.Goals as goal

pub returns : goal.returns
returns c =
    let items = c.self.inside.block.items in
    let gone = c.self.inside.gone in
    let place = c.args.place in
    c.trim.ensures
    ∙ elim c.if-place-ends.branch [
      | then-place-ends w ↦
          ap (λ (h : EndsState). h.ends) w.self-is ∙ ap (drop (gone + 1)) w.copy_within.ensures.items
          ∙ moved_up items gone place ((gone + place) - gone) (gone + 1) ((gone + 1) + ((gone + place) - gone)) (omega arith) refl (omega arith) (let many = ap (λ (h : EndsState). length h.ends) c.self.view_is in let some = c.requires in let most = c.self.invariant in omega (arith, many, some, most, length-drop gone items))
          ∙ ap (λ (h : EndsState). take place h.ends ++ drop (place + 1) h.ends) c.self.view_is
      | else-place-ends w ↦
          ap (λ (h : EndsState). h.ends) w.self-is ∙ ap (drop gone) w.remove.ensures.by_index.2
          ∙ spliced_behind items [] gone place (place + 1) (gone + place) ((gone + place) + 1) (let long = c.self.inside.block.ok.0 in let most = c.self.invariant in omega (arith, long, most)) refl (omega arith)
          ∙ ap (λ (h : EndsState). take place h.ends ++ drop (place + 1) h.ends) c.self.view_is
    ]

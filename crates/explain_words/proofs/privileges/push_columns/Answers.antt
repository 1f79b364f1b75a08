use Rattle.std.proofs.Common.{◌++◌, ◌∷◌, [], ◌∙◌, ap, append_assoc, map, sym, take}
use Rattle.std.proofs.lemmas.List.{map_more, take_all}
use Rattle.monitor_core.specs.Atoms.{of_column}
use Rattle.explain_words.proofs.privileges.push_columns.Goals as goal

pub loop-item-preserved : goal.loop-item-preserved
loop-item-preserved g c =
    let items = c.args.items.now in
    let i = c.loop-item.item-index in
    let old = c.args.atoms.now.items in
    let before = map (λ item. of_column c.args.by c.args.table (g.T.Named.name_of item)) (take i items) in
    c.push_reserved.ensures.items
    ∙ ap (λ k. k ++ c.of_column.result ∷ []) (c.in_ok-reserve.ensures.items ∙ c.loop-item.invariant)
    ∙ ap (λ atom. (old ++ before) ++ atom ∷ []) (c.of_column.ensures ∙ ap (of_column c.args.by c.args.table) (c.name.ensures ∙ ap g.T.Named.name_of c.item-item.is))
    ∙ append_assoc old before _
    ∙ ap (λ k. old ++ k) (sym (map_more (λ item. of_column c.args.by c.args.table (g.T.Named.name_of item)) items i c.item-item.result c.loop-item-test.true))

pub returns : goal.returns
returns g c =
    c.loop-item.invariant
    ∙ ap (λ items. c.args.atoms.now.items ++ map (λ item. of_column c.args.by c.args.table (g.T.Named.name_of item)) items) (take_all c.loop-item.item-index c.args.items.now c.loop-item-test.false)

use Rattle.std.proofs.Common.{[], ◌∷◌, ◌++◌, take, map, ap, sym, ◌∙◌, arith}
use Rattle.std.specs.List.{zip}
use Rattle.std.proofs.lemmas.List.{map-append, take_all}
use Rattle.export_core.specs.Walk as walks
use Rattle.export_core.proofs.Places.{take_next, slice_get-zip, slice_get-index, length-zip}
use Rattle.export_core.proofs.judgement.settled.Goals as goal

pub loop-at-preserved : goal.loop-at-preserved
loop-at-preserved c =
    let tables = c.args.tables.now in
    let now = c.args.now.now in
    let i = c.loop-at.at in
    let below = c.loop-at-test.true in
    let many = c.requires in
    let f = walks.settled c.args.image.now c.args.user.now in
    let table = slice_get-index tables i c.index-tables-at.result c.index-tables-at.is (omega (arith, below, many)) in
    let marks = slice_get-index now i c.index-now-at.result c.index-now-at.is below in
    let next = take_next (zip tables now) i (c.index-tables-at.result, c.index-now-at.result) (slice_get-zip tables now i _ _ table marks) in
    c.in_ok-push.ensures.items
    ∙ ap (λ l. l ++ c.in_ok-settle.field-0 ∷ []) c.loop-at.invariant
    ∙ ap (λ j. map f (take i (zip tables now)) ++ j ∷ []) c.in_ok-settle.ensures
    ∙ sym (ap (map f) next ∙ map-append f (take i (zip tables now)) _)

pub returns : goal.returns
returns c =
    let all = zip c.args.tables.now c.args.now.now in
    c.loop-at.invariant ∙ ap (map (walks.settled c.args.image.now c.args.user.now)) (take_all c.loop-at.at all (omega (arith, length-zip c.args.tables.now c.args.now.now, c.loop-at-test.false)))

use Rattle.std.proofs.Common.{◌++◌, ℕ, None, length, length-append, append_assoc, get_or, ap, sym, ◌∙◌, arith}
use Rattle.std.specs.Map.{values_of}
use Rattle.std.proofs.lemmas.List.{map-append, length-map}
use Rattle.copyup_core.specs.Slot.{Slot, had, had_item, had_within}
use Rattle.copyup_core.proofs.Rising.{had_within-more, length-numbered}
use Rattle.copyup_core.proofs.walk.copy_next.Goals as goal

pub loop-at-preserved : goal.loop-at-preserved
loop-at-preserved g c =
    let k = c.loop-at.invariant in
    let xs = c.args.slots.now.items in
    let at = c.loop-at.at in
    let out = c.args.out.now.items in
    let d : Slot g.row.V.Denot = record { number = 0; live = None; kept = None } in
    let s = get_or xs at d in
    let value : ℕ × g.row.V.Denot → g.row.V.Denot = λ e. e.1 in
    let before = had_within c.args.from at xs in
    let more = had_within-more c.args.from at xs d (omega arith) (omega (arith, c.requires.within.1, c.loop-at-test.true)) in
    let longer = ap length more ∙ length-append before (had_item s) in
    let so_far = ap length k.0 ∙ length-append out (values_of before) in
    let as_many = length-map before value in
    let few = length-numbered s.number (had s) in
    let values = ap values_of more ∙ map-append value before (had_item s) in (
      c.in_default.ensures.items d ∙ ap (λ t. t ++ values_of (had_item s)) k.0 ∙ append_assoc out (values_of before) (values_of (had_item s)) ∙ ap (λ t. out ++ t) (sym values),
      c.copy_item.ensures.capacity ∙ k.1,
      omega (arith, longer, few, k.2, so_far, as_many, c.len.ensures, c.len-start.ensures, c.if-len-start.false, c.loop-at.out.ok, c.args.out.now.ok),
    )

use Rattle.std.proofs.Common.{◌+◌, ◌-◌, ◌^◌, ◌∙◌, pos, ap, sym, to_z-of_z, int_lt, unsigned_abs}
use Rattle.index_core.proofs.RankLemmas.{above-negative, above-other}
use Rattle.index_core.proofs.rank.above_lowest.Goals as goal

pub returns-then-number-lt0 : goal.returns-then-number-lt0
returns-then-number-lt0 c =
    let sign = ap (λ z. int_lt z (pos 0)) (sym (to_z-of_z c.ranges.number)) ∙ c.if-number-lt0.true in
    ap (λ k. 2 ^ 63 - k) (c.unsigned_abs.ensures.value ∙ ap unsigned_abs (to_z-of_z c.ranges.number)) ∙ above-negative c.args.number sign

pub returns-else-number-lt0 : goal.returns-else-number-lt0
returns-else-number-lt0 c =
    let sign = ap (λ z. int_lt z (pos 0)) (sym (to_z-of_z c.ranges.number)) ∙ c.if-number-lt0.false in
    ap (λ k. 2 ^ 63 + k) (c.unsigned_abs-else-number-lt0.ensures.value ∙ ap unsigned_abs (to_z-of_z c.ranges.number)) ∙ above-other c.args.number sign c.ranges.number

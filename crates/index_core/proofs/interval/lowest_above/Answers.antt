use Rattle.std.proofs.Common.{rules, ◌≡◌, ◌≤◌, ◌+◌, ◌-◌, ◌^◌, ◌∙◌, min, Some, SFits, w64, to_z-of_z, refl, sym, ap, subst}
use Rattle.std.specs.declared.cmp.Ordering.TheVariants as orderings
use Rattle.base_core.specs.Values.{value_order}
use Rattle.base_core.specs.declared.value.Value.{Value}
use Rattle.index_core.specs.Rank.{above_lowest, rank}
use Rattle.index_core.proofs.RankLemmas.{greater-than, rank-ge}
use Rattle.index_core.proofs.interval.lowest_above.Goals as goal

pub returns-in-Int : goal.returns-in-Int
returns-in-Int c = λ v is.
    let fits : SFits w64 c.in-Int.number = search rules in
    let most = greater-than v c.in-Int.number fits (subst (λ (w : Value). value_order v w ≡ Some orderings.Greater) c.in-Int.is is) in
    subst (λ k. k ≤ rank v) (sym (c.saturating_add.ensures ∙ ap (λ k. min (k + 1) (2 ^ 64 - 1)) (c.above_lowest.ensures ∙ ap above_lowest (to_z-of_z fits)))) most

pub returns-in-Text : goal.returns-in-Text
returns-in-Text c = λ v is. subst (λ k. k ≤ rank v) (sym c.rank.ensures) (rank-ge v c.args.value.now orderings.Greater is refl)

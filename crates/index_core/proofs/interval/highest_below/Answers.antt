use Rattle.std.proofs.Common.{rules, ◌≡◌, ◌≤◌, ◌-◌, ◌∙◌, Some, SFits, w64, to_z-of_z, refl, sym, ap, subst}
use Rattle.std.specs.declared.cmp.Ordering.TheVariants as orderings
use Rattle.base_core.specs.Values.{value_order}
use Rattle.base_core.specs.declared.value.Value.{Value}
use Rattle.index_core.specs.Rank.{above_lowest, rank}
use Rattle.index_core.proofs.RankLemmas.{less-than, rank-le}
use Rattle.index_core.proofs.interval.highest_below.Goals as goal

pub returns-in-Int : goal.returns-in-Int
returns-in-Int c = λ v is.
    let fits : SFits w64 c.in-Int.number = search rules in
    let least = less-than v c.in-Int.number fits (subst (λ (w : Value). value_order v w ≡ Some orderings.Less) c.in-Int.is is) in
    subst (λ k. rank v ≤ k) (sym (c.saturating_sub.ensures ∙ ap (λ k. k - 1) (c.above_lowest.ensures ∙ ap above_lowest (to_z-of_z fits)))) least

pub returns-in-Text : goal.returns-in-Text
returns-in-Text c = λ v is. subst (λ k. rank v ≤ k) (sym c.rank.ensures) (rank-le v c.args.value.now orderings.Less is refl)

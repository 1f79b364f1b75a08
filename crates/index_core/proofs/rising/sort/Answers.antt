use Rattle.std.proofs.Common.{◌≡◌, sym, subst}
use Rattle.std.proofs.Math.Dec.{eqb}
use Rattle.std.specs.List.{dedup}
use Rattle.std.specs.List.Sorted.{IsStrictlyIncreasing}
use Rattle.std.proofs.lemmas.List.Sorted.{Contains-permutation, IsPermutation-sym}
use Rattle.std.proofs.lemmas.List.Filters.{dedup_is}
use Rattle.std.proofs.lemmas.List.Kept.{Contains-dedup_nat, Contains-from_dedup}
use Rattle.std.proofs.lemmas.Map.Keys.{IsStrictlyIncreasing-dedup}
use Rattle.index_core.proofs.rising.sort.Goals as goal

deduped : (c : goal.After-dedup) → c.dedup.new.self.items ≡ dedup eqb c.sort_unstable.new.self.items
deduped c = dedup_is eqb c.sort_unstable.new.self.items c.dedup.new.self.items c.dedup.ensures.filtered

pub returns-clause-rising : goal.returns-clause-rising
returns-clause-rising c =
    let sorted = c.sort_unstable.new.self.items in
    subst IsStrictlyIncreasing (sym (deduped c)) (IsStrictlyIncreasing-dedup sorted c.sort_unstable.ensures.sorted)

pub returns-clause-all : goal.returns-clause-all
returns-clause-all c = λ n is.
    let sorted = c.sort_unstable.new.self.items in
    rw (deduped c) (Contains-dedup_nat sorted n (Contains-permutation _ _ n c.sort_unstable.ensures.permutation is))

pub returns-clause-only : goal.returns-clause-only
returns-clause-only c = λ n is.
    let sorted = c.sort_unstable.new.self.items in
    let among = Contains-from_dedup eqb sorted n (rw (deduped c) at is) in
    Contains-permutation _ _ n (IsPermutation-sym _ _ c.sort_unstable.ensures.permutation) among

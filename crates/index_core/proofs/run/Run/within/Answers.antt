use Rattle.std.proofs.Common.{rules, ◌≡◌, ◌≤◌, ◌∙◌, true, false, List, leb, ltb, length, take, drop, ap, sym, subst}
use Rattle.std.specs.List.Sorted.{IsNonDecreasingBy, IsPartitionPoint}
use Rattle.std.proofs.lemmas.List.Sorted.{IsPartitionPoint-from_clause, IsPartitionedBy-leb, IsPartitionedBy-ltb, IsNonDecreasingBy-take}
use Rattle.index_core.specs.declared.entry.Entry.{Entry}
use Rattle.index_core.specs.Within.{entries_within}
use Rattle.index_core.proofs.ListedLemmas.{between, within-upto}
use Rattle.index_core.proofs.run.Run.within.Goals as goal

pub returns : goal.returns
returns c =
    let i = c.args.interval in
    let entries = c.as_slice-entries.result.now in
    let all = c.as_slice-entries.ensures.value in
    let upto = c.split_at.result.0.now in
    let front = c.split_at.ensures.front in
    let start = c.partition_point-start.result in
    let end = c.partition_point-end.result in
    let sorted : IsNonDecreasingBy (λ (e : Entry). e.key) entries = subst (λ (l : List Entry). IsNonDecreasingBy (λ (e : Entry). e.key) l) (sym all) c.args.self.now.sorted in
    let sorted_upto : IsNonDecreasingBy (λ (e : Entry). e.key) upto = subst (λ (l : List Entry). IsNonDecreasingBy (λ (e : Entry). e.key) l) (sym front) (IsNonDecreasingBy-take (λ (e : Entry). e.key) end entries sorted) in
    let last = IsPartitionPoint-from_clause (λ (e : Entry). leb e.key i.highest) _ _ c.partition_point-end.ensures.partitioned (IsPartitionedBy-leb (λ (e : Entry). e.key) entries i.highest sorted) (λ a r q k. search rules) in
    let first = IsPartitionPoint-from_clause (λ (e : Entry). ltb e.key i.lowest) _ _ c.partition_point-start.ensures.partitioned (IsPartitionedBy-ltb (λ (e : Entry). e.key) upto i.lowest sorted_upto) (λ a r q k. search rules) in
    let within : start ≤ length (take end entries) = subst (λ (l : List Entry). start ≤ length l) front c.partition_point-start.ensures.bound in
    c.split_at-2.ensures.back ∙ ap (drop start) front
    ∙ between i entries start end c.partition_point-end.ensures.bound last within (subst (λ (l : List Entry). IsPartitionPoint (λ e. ltb e.key i.lowest ≡ true) (λ e. ltb e.key i.lowest ≡ false) l start) front first)
    ∙ ap (entries_within i) all

pub returns-then-are_outside-2 : goal.returns-then-are_outside-2
returns-then-are_outside-2 c =
    let i = c.args.interval in
    let entries = c.as_slice-entries.result.now in
    let all = c.as_slice-entries.ensures.value in
    let end = c.partition_point-end.result in
    let sorted : IsNonDecreasingBy (λ (e : Entry). e.key) entries = subst (λ (l : List Entry). IsNonDecreasingBy (λ (e : Entry). e.key) l) (sym all) c.args.self.now.sorted in
    let last = IsPartitionPoint-from_clause (λ (e : Entry). leb e.key i.highest) _ _ c.partition_point-end.ensures.partitioned (IsPartitionedBy-leb (λ (e : Entry). e.key) entries i.highest sorted) (λ a r q k. search rules) in
    sym (c.are_outside-2.ensures c.if-are_outside-2.true) ∙ ap (entries_within i) c.split_at.ensures.front ∙ within-upto i entries end last ∙ ap (entries_within i) all

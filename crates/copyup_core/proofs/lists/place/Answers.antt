use Rattle.std.proofs.Common.{ltb, rules, tests, arith}
use Rattle.std.proofs.lemmas.List.Sorted.{IsPartitionPoint-from_clause, IsPartitionedBy-ltb}
use Rattle.std.proofs.lemmas.Bool.{ltb-true, ltb-false}
use Rattle.copyup_core.proofs.Parallel.{in-order}
use Rattle.copyup_core.proofs.lists.place.Goals as goal

pub returns-clause-before : goal.returns-clause-before
returns-clause-before g c =
    let es = c.args.entries.now in
    let n = c.args.n in
    let at = IsPartitionPoint-from_clause (λ e. ltb e.0 n) es _ c.partition_point.ensures.partitioned (IsPartitionedBy-ltb (λ e. e.0) es n (in-order es c.requires)) (λ a q f k. search (rules, tests)) in
    λ k d lo hi. ltb-true _ n (at.0 k d lo hi)

pub returns-clause-after : goal.returns-clause-after
returns-clause-after g c =
    let es = c.args.entries.now in
    let n = c.args.n in
    let at = IsPartitionPoint-from_clause (λ e. ltb e.0 n) es _ c.partition_point.ensures.partitioned (IsPartitionedBy-ltb (λ e. e.0) es n (in-order es c.requires)) (λ a q f k. search (rules, tests)) in
    λ k d lo hi. ltb-false _ n (at.1 k d lo hi)

pub returns-in-Some-clause-before : goal.returns-in-Some-clause-before
returns-in-Some-clause-before g c =
    let within = rw c.in-Some.is at c.expected_place.ensures.within in
    let number = rw c.in-Some.is at c.expected_place.ensures.number in
    λ k d lo hi. let e = number d in let s = c.requires k c.in-Some.place d hi within in omega arith

pub returns-in-Some-clause-after : goal.returns-in-Some-clause-after
returns-in-Some-clause-after g c =
    let es = c.args.entries.now in
    let number = rw c.in-Some.is at c.expected_place.ensures.number in
    λ k d lo hi. let e = number d in let s = in-order es c.requires c.in-Some.place k d lo hi in omega arith

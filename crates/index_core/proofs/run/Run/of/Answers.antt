use Rattle.std.proofs.Common.{rules}
use Rattle.std.proofs.lemmas.List.Sorted.{IsNonDecreasingBy-from_sort_by_key}
use Rattle.index_core.specs.declared.entry.Entry.{Entry}
use Rattle.index_core.proofs.run.Run.of.Goals as goal

pub invariant_of-result : goal.invariant_of-result
invariant_of-result c = record { sorted = IsNonDecreasingBy-from_sort_by_key (λ (e : Entry). e.key) _ c.in_ok-sort_by_key.ensures.sorted (λ a r q k. search rules) }

use Rattle.std.proofs.Common.{subst}
use Rattle.index_core.specs.Within.{IsWithin}
use Rattle.index_core.specs.declared.key.Key.{Key}
use Rattle.index_core.proofs.index.Index.note.Goals as goal

pub returns-in_ok-sort_tail-clause-noted : goal.returns-in_ok-sort_tail-clause-noted
returns-in_ok-sort_tail-clause-noted c = λ i within.
    (c.in_ok-sort_tail.ensures.same i c.args.number).0
    (c.in_ok-push.ensures.noted i (subst (λ (k : Key). IsWithin k i c.args.value.now) c.sort_tail.ensures.key within))

pub returns-in_ok-sort_tail-clause-kept : goal.returns-in_ok-sort_tail-clause-kept
returns-in_ok-sort_tail-clause-kept c = λ i n is. (c.in_ok-sort_tail.ensures.same i n).0 (c.in_ok-push.ensures.kept i n is)

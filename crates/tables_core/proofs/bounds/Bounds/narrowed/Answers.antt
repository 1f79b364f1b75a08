use Rattle.std.proofs.Common.{ℤ, ◌≤ℤ◌, w64, subst, sym}
use Rattle.std.proofs.lemmas.Int.{to_z-of_z}
use Rattle.tables_core.proofs.BoundLemmas.{bounded-above, bounded-below, equals}
use Rattle.tables_core.proofs.bounds.Bounds.narrowed.Goals as goal

pub returns-in-Equal-clause-kept : goal.returns-in-Equal-clause-kept
returns-in-Equal-clause-kept c n kept met =
    let same = sym (to_z-of_z w64 c.args.literal c.ranges.literal) in
    let at = equals n c.args.literal c.args.comparison c.in-Equal.is met in
    c.at_most.ensures.kept n
    (c.at_least.ensures.kept n kept (subst (λ (l : ℤ). l ≤ℤ n) same at.0))
    (subst (λ (l : ℤ). n ≤ℤ l) same at.1)

pub returns-in-Less-clause-kept : goal.returns-in-Less-clause-kept
returns-in-Less-clause-kept c n kept met =
    c.at_most-in-Less.ensures.kept n kept
    (subst (λ (l : ℤ). n ≤ℤ l) (sym (to_z-of_z w64 c.args.literal c.ranges.literal)) (bounded-above n c.args.literal c.args.comparison c.in-Less.is met))

pub returns-in-Greater-clause-kept : goal.returns-in-Greater-clause-kept
returns-in-Greater-clause-kept c n kept met =
    c.at_least-in-Greater.ensures.kept n kept
    (subst (λ (l : ℤ). l ≤ℤ n) (sym (to_z-of_z w64 c.args.literal c.ranges.literal)) (bounded-below n c.args.literal c.args.comparison c.in-Greater.is met))

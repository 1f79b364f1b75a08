use Rattle.std.proofs.Common.{◌≤◌, sym, subst}
use Rattle.index_core.specs.Rank.{rank}
use Rattle.index_core.proofs.IntervalLemmas.{ranks-upto, ranks-from}
use Rattle.index_core.proofs.interval.Interval.ranked.Goals as goal

pub returns-in-LessEqual : goal.returns-in-LessEqual
returns-in-LessEqual c = λ v within met.
    c.at_most-in-LessEqual.ensures (rank v) within
    (subst (λ k. rank v ≤ k) (sym c.rank.ensures) (ranks-upto c.args.comparison v c.args.literal.now met c.in-LessEqual.is))

pub returns-in-GreaterEqual : goal.returns-in-GreaterEqual
returns-in-GreaterEqual c = λ v within met.
    c.at_least-in-GreaterEqual.ensures (rank v) within
    (subst (λ k. k ≤ rank v) (sym c.rank-in-GreaterEqual.ensures) (ranks-from c.args.comparison v c.args.literal.now met c.in-GreaterEqual.is))

use Rattle.std.proofs.Common.{Option, subst}
use Rattle.index_core.specs.declared.interval.Interval.{Interval}
use Rattle.tables_core.specs.Indexing.{IsCellKept}
use Rattle.tables_core.proofs.IntervalLemmas.{cell-narrowed, cell-whole}
use Rattle.tables_core.proofs.interval.narrowed.Goals as goal

pub returns-in-Some : goal.returns-in-Some
returns-in-Some c = λ cell within met.
    cell-narrowed c.args.key c.args.condition.now c.in-Some.interval c.narrowed.result cell c.narrowed.ensures (subst (λ (o : Option Interval). IsCellKept c.args.key o cell) c.in-Some.is within) met

pub returns-in-None : goal.returns-in-None
returns-in-None c = λ cell within met.
    cell-narrowed c.args.key c.args.condition.now c.whole.result c.narrowed-in-None.result cell c.narrowed-in-None.ensures (cell-whole c.args.key c.args.condition.now c.whole.result cell (c.whole.ensures c.args.key) met) met

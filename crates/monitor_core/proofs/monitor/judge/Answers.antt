use Rattle.std.proofs.Common.{Ok, Err, Result, sym, ap, ◌∙◌}
use Rattle.base_core.specs.declared.lack.Lack.{Lack}
use Rattle.monitor_core.specs.declared.allowed.Allowed.{Allowed}
use Rattle.monitor_core.specs.Verdict.{State, Check}
use Rattle.monitor_core.proofs.Lacking.{verdict-not_NoMemory}
use Rattle.monitor_core.proofs.monitor.judge.Goals as goal

abbrev check_of : Result Allowed Lack → Check
check_of (Ok _) = Ok tt
check_of (Err lack) = Err lack

pub returns-in-Err-clause-memory : goal.returns-in-Err-clause-memory
returns-in-Err-clause-memory g c = λ e.
    let at : State = record { tables = c.args.tables.now.tables; rights = g.A.Authority.content c.args.rights.now; limits = c.args.limits.now; moment = c.args.moment.0 } in
    verdict-not_NoMemory at c.args.user c.args.statement.now (sym c.judge.ensures ∙ (c.in-Err.is ∙ ap check_of e))

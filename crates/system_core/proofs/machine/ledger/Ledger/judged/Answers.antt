use Rattle.std.proofs.Common.{◌∙◌, ap}
use Rattle.monitor_core.specs.Verdict.{allowed_by}
use Rattle.system_core.proofs.Agreeing.{verdict-stands}
use Rattle.system_core.proofs.machine.ledger.Ledger.judged.Goals as goal

pub returns : goal.returns
returns c =
    let same = verdict-stands c.self.inside.limits c.self.inside.journal.items c.self.inside.tables.tables c.self.inside.rights.content c.args.user c.args.statement.now c.self.invariant in
    rw (← c.self.view_is) (c.judge.ensures.verdict ∙ ap (λ check. allowed_by check c.args.statement.now) (rw (c.count.ensures, c.deref.ensures.value) same))

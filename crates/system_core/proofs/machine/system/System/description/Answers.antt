use Rattle.std.proofs.Common.{sym, ◌∙◌}
use Rattle.system_core.specs.Judging.{verdict_of}
use Rattle.system_core.specs.Describing.{denial_in}
use Rattle.system_core.proofs.Describing.{told-denial, told-columns}
use Rattle.system_core.proofs.machine.system.System.description.Goals as goal

pub returns-in-Some : goal.returns-in-Some
returns-in-Some c =
    told-denial c.args.self.now c.args.statement.now (denial_in (verdict_of c.args.self.now c.args.user.now c.args.statement.now)) c.in-Some.denial (sym c.denial.ensures ∙ c.in-Some.is)

pub returns-in-None : goal.returns-in-None
returns-in-None c =
    told-columns c.args.self.now c.args.statement.now (denial_in (verdict_of c.args.self.now c.args.user.now c.args.statement.now)) c.tell_columns.result (sym c.denial.ensures ∙ c.in-None.is) c.tell_columns.ensures

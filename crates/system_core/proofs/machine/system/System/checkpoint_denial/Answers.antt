use Rattle.std.proofs.Common.{ℕ, option_map, sym, ap, subst}
use Rattle.reader_core.specs.declared.statement.Statement.{Statement}
use Rattle.reader_core.specs.declared.statement.Statement.TheVariants as statements
use Rattle.monitor_core.specs.Verdict.{first_lack}
use Rattle.system_core.specs.Judging.{checkpoint_checks}
use Rattle.system_core.specs.Describing.{denial_reply}
use Rattle.system_core.proofs.Describing.{Denied, undenied}
use Rattle.system_core.proofs.machine.system.System.checkpoint_denial.Goals as goal

pub returns-in-Export : goal.returns-in-Export
returns-in-Export c =
    let w = c.args.self.now in
    let By : Statement → Type 0 = λ s. Denied w s (first_lack (checkpoint_checks w c.args.user.now s)) c.export_denial.result in
    let Of : ℕ → Type 0 = λ n. By (statements.Export n c.in-Export.only) in
    subst By (sym c.in-Export.is) (subst Of c.get.ensures.number c.export_denial.ensures)

pub returns-in_default : goal.returns-in_default
returns-in_default c =
    sym (ap (option_map (denial_reply c.args.self.now c.args.statement.now)) (undenied c.args.self.now c.args.user.now c.args.statement.now c.in_default.not-Export))

use Rattle.std.proofs.Common.{List, sym, subst}
use Rattle.base_core.specs.declared.condition.Condition.{Condition}
use Rattle.monitor_core.specs.Verdict.{first_lack}
use Rattle.reader_core.specs.declared.statement.Statement.{Statement}
use Rattle.reader_core.specs.declared.statement.Statement.TheVariants as statements
use Rattle.system_core.specs.World.{entry}
use Rattle.system_core.specs.Judging.{checkpoint_checks}
use Rattle.system_core.specs.Step.{CarriesOut, Responds}
use Rattle.system_core.proofs.machine.system.System.look.Goals as goal

pub returns-in-Select : goal.returns-in-Select
returns-in-Select c =
    let By : Statement → Type 0 = λ s. Responds c.args.self.now (entry c.args.entry.now.pass c.args.entry.now.user s) (first_lack (checkpoint_checks c.args.self.now c.args.entry.now.user s)) c.select.result c.select.new.self in
    let Asked : List Condition → Type 0 = λ f. CarriesOut c.args.self.now (entry c.args.entry.now.pass c.args.entry.now.user (statements.Select c.in-Select.list c.in-Select.table f)) c.select.result c.select.new.self in
    subst By (sym c.in-Select.is) (subst Asked c.as_slice.ensures.items (c.select.ensures c.args.entry.now.pass c.args.entry.now.user))

pub returns-in-Checkpoint : goal.returns-in-Checkpoint
returns-in-Checkpoint c =
    let By : Statement → Type 0 = λ s. Responds c.args.self.now (entry c.args.entry.now.pass c.args.entry.now.user s) (first_lack (checkpoint_checks c.args.self.now c.args.entry.now.user s)) c.begin.result c.begin.new.self in
    subst By (sym c.in-Checkpoint.is) (c.begin.ensures c.args.entry.now.pass c.args.entry.now.user)

pub returns-in-Checkpoints : goal.returns-in-Checkpoints
returns-in-Checkpoints c =
    let By : Statement → Type 0 = λ s. Responds c.args.self.now (entry c.args.entry.now.pass c.args.entry.now.user s) (first_lack (checkpoint_checks c.args.self.now c.args.entry.now.user s)) c.list.result c.args.self.now in
    subst By (sym c.in-Checkpoints.is) (c.list.ensures c.args.entry.now.pass c.args.entry.now.user)

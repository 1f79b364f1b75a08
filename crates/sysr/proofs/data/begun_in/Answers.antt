use Rattle.std.proofs.Common.{None, false, subst, sym}
use Rattle.std.proofs.lemmas.Result.{IfOk-weaker}
use Rattle.journal_core.specs.Keeping.{owing_nothing}
use Rattle.desk_core.specs.Guarded.{origin_at}
use Rattle.checkpoint_core.specs.Beginning.{MayTend}
use Rattle.sysr.proofs.data.begun_in.Goals as goal

pub returns-in-Ok-begin-clause-begins : goal.returns-in-Ok-begin-clause-begins
returns-in-Ok-begin-clause-begins c =
    IfOk-weaker c.told.result _ _
    (λ told same. subst (λ b. MayTend false b.beginning.begun b.beginning.system.journal (origin_at b.beginning.system (owing_nothing None None))) (sym same) c.in-Ok-begin.ensures.begins)
    c.told.ensures

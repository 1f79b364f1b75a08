use Rattle.std.proofs.Common.{sym, ◌∙◌}
use Rattle.tables_core.proofs.FittingLemmas.{AssignmentsFit-all, AssignmentsFit-from}
use Rattle.tables_core.proofs.table.Table.takes_assignments.Goals as goal

pub returns : goal.returns
returns c =
    let all = rw c.as_slice.ensures at c.assignments_fit.ensures in
    rw (← c.self.view_is) (λ yes. AssignmentsFit-from _ _ (sym all ∙ yes), λ typed. all ∙ AssignmentsFit-all _ _ typed)

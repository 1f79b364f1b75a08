use Rattle.std.proofs.Common.{◌≡◌, false, take}
use Rattle.parameters_core.specs.Statements.{open_behind}
use Rattle.parameters_core.proofs.Cuts.{NoEndBefore}
use Rattle.parameters_core.proofs.statements.statement_len.Given as goal

abbrev pub invariant-loop-at : goal.invariant-loop-at
invariant-loop-at l = (l.is_inside ≡ open_behind false (take l.at l.text)) × NoEndBefore l.text l.at

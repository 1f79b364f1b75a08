use Rattle.utility_core.proofs.Selects.{no_select}
use Rattle.utility_core.proofs.Statements.{no_command}
use Rattle.utility_core.proofs.laws.statement_or_command.Goals as goal

pub returns-clause-begun : goal.returns-clause-begun
returns-clause-begun c = no_command

pub returns-clause-select : goal.returns-clause-select
returns-clause-select c = no_select

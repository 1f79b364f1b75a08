use Rattle.std.proofs.Common.{sym, ◌∙◌}
use Rattle.preparing_core.specs.Preparing.{ended}
use Rattle.preparing_core.proofs.preparing.one_statement.Goals as goal

pub returns-in-Some : goal.returns-in-Some
returns-in-Some c =
    ended c.in-Some.rest.now (rw c.in-Some.is at c.first_statement.ensures) (sym c.is_empty_statement.ensures ∙ c.if-is_empty_statement.true)

use Rattle.std.proofs.Common.{sym, subst, ◌∙◌}
use Rattle.lexer_core.specs.Lexing.{AreTokens}
use Rattle.asking_core.specs.Asking.{asks_version, underscored}
use Rattle.asking_core.proofs.CommandLemmas.{command_or_none, no_command_at}
use Rattle.asking_core.proofs.asking.command_told.Goals as goal

pub returns-then-is_version_question : goal.returns-then-is_version_question
returns-then-is_version_question c = asks_version (sym c.is_version_question.ensures ∙ c.if-is_version_question.true)

pub returns-in-Some : goal.returns-in-Some
returns-in-Some c = underscored (sym c.in-Some.ensures)

pub returns-in-Ok : goal.returns-in-Ok
returns-in-Ok c =
    let unasked = sym c.is_version_question.ensures ∙ c.if-is_version_question.false in
    command_or_none c.args.line.now unasked (sym c.in_default.ensures) c.as_slice.result.now (subst (AreTokens c.args.line.now) (sym c.as_slice.ensures.value) c.in-Ok.ensures.outcome) c.command_of.result c.command_of.ensures

pub returns-in-Err-At : goal.returns-in-Err-At
returns-in-Err-At c =
    let unasked = sym c.is_version_question.ensures ∙ c.if-is_version_question.false in
    no_command_at c.args.line.now unasked (sym c.in_default.ensures) _ _ (rw c.in-Err-At.field-0-is at c.in-Err-At.ensures.outcome)

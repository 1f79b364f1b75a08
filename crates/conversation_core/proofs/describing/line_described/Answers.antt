use Rattle.std.proofs.Common.{Ok, sym, subst, ◌∙◌}
use Rattle.sending_core.specs.declared.plain.Plain.{Plain}
use Rattle.conversation_core.specs.Extending.{DescribesLineRows}
use Rattle.conversation_core.specs.Extending.DescribesLineRows.{refused, shaped, silent}
use Rattle.conversation_core.proofs.describing.line_described.Goals as goal

pub returns-then-is_empty_statement-clause-describes : goal.returns-then-is_empty_statement-clause-describes
returns-then-is_empty_statement-clause-describes g c = silent (sym c.is_empty_statement.ensures ∙ c.if-is_empty_statement.true)

pub returns-in-Ok-clause-describes : goal.returns-in-Ok-clause-describes
returns-in-Ok-clause-describes g c =
    subst (λ (m : Plain). DescribesLineRows c.args.lent.now.desk.now c.args.user c.args.line.now c.args.formats c.args.pass.now (Ok m) c.describe_rows.new.pass)
    (sym c.shape_message.ensures) (shaped (sym c.is_empty_statement.ensures ∙ c.if-is_empty_statement.false) c.in-Ok.ensures.describes)

pub returns-in-Err-clause-describes : goal.returns-in-Err-clause-describes
returns-in-Err-clause-describes g c = refused (sym c.is_empty_statement.ensures ∙ c.if-is_empty_statement.false) c.in-Err.ensures.describes

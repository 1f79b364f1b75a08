use Rattle.std.proofs.Common.{List, ℕ, Ok, Err, [], sym, subst, ◌∙◌}
use Rattle.messages_core.specs.declared.rows.Format.{Format}
use Rattle.parameters_core.specs.Filling.{IsFilled, IsFillFault, ones}
use Rattle.sending_core.specs.declared.problem.Problem.{Problem}
use Rattle.preparing_core.specs.declared.fault.PrepareFault.TheVariants as faults
use Rattle.conversation_core.specs.Extending.{DescribesLineRows, DescribesPrepared}
use Rattle.conversation_core.specs.Extending.DescribesPrepared.{described, exhausted, refused, unfilled}
use Rattle.conversation_core.proofs.describing.prepared_described.Goals as goal

pub returns-in-Err-clause-describes : goal.returns-in-Err-clause-describes
returns-in-Err-clause-describes g c =
    subst (λ (p : Problem). DescribesPrepared c.args.lent.now.desk.now c.args.user c.args.made.now c.args.pass.now (Err (faults.Problem p)) c.args.pass.now)
    (sym c.fill_problem.ensures) (unfilled c.in-Err.fault (subst (λ (t : List ℕ). IsFillFault t ones c.in-Err.fault) c.as_slice.ensures c.in-Err.ensures.faulty))

pub returns-in_default-copied-clause-describes : goal.returns-in_default-copied-clause-describes
returns-in_default-copied-clause-describes g c = exhausted

pub returns-in-Ok-line_described-clause-describes : goal.returns-in-Ok-line_described-clause-describes
returns-in-Ok-line_described-clause-describes g c =
    let line = c.fill_with_ones.new.line.items in
    let filled = subst (λ (t : List ℕ). IsFilled t ones line) c.as_slice.ensures c.in_default.ensures.filled in
    let rows = subst (λ (l : List ℕ). DescribesLineRows c.args.lent.now.desk.now c.args.user l [] c.args.pass.now (Ok c.in-Ok-line_described.message) c.line_described.new.pass) c.as_slice-3.ensures.value
    (subst (λ (fs : List Format). DescribesLineRows c.args.lent.now.desk.now c.args.user c.as_slice-3.result.now fs c.args.pass.now (Ok c.in-Ok-line_described.message) c.line_described.new.pass) c.all-formats.ensures
    c.in-Ok-line_described.ensures.describes) in
    let types = c.in-Ok.ensures ∙ c.as_slice-2.ensures in
    subst (λ (ts : List ℕ). DescribesPrepared c.args.lent.now.desk.now c.args.user c.args.made.now c.args.pass.now (Ok (ts, c.in-Ok-line_described.message)) c.line_described.new.pass)
    (sym types) (described filled rows)

pub returns-clause-describes : goal.returns-clause-describes
returns-clause-describes g c =
    let line = c.fill_with_ones.new.line.items in
    let filled = subst (λ (t : List ℕ). IsFilled t ones line) c.as_slice.ensures c.in_default.ensures.filled in
    let rows = subst (λ (l : List ℕ). DescribesLineRows c.args.lent.now.desk.now c.args.user l [] c.args.pass.now (Err c.in-Err-line_described.fault) c.line_described.new.pass) c.as_slice-3.ensures.value
    (subst (λ (fs : List Format). DescribesLineRows c.args.lent.now.desk.now c.args.user c.as_slice-3.result.now fs c.args.pass.now (Err c.in-Err-line_described.fault) c.line_described.new.pass) c.all-formats.ensures
    c.in-Err-line_described.ensures.describes) in
    refused filled rows

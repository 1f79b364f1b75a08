use Rattle.std.proofs.Common.{arith}
use Rattle.base_core.proofs.Fronts.{on_err}
use Rattle.answer_core.specs.Steps.{step_text}
use Rattle.answer_core.specs.declared.steps.RecordStep.TheVariants as steps
use Rattle.answer_core.proofs.Going.{breaks_more}
use Rattle.answer_core.proofs.Steppings.{can_be_told, exported, next_below, next_counts, next_sends, stepped, stepped_is, stepped_sends}
use Rattle.answer_core.proofs.unsent.go_on_export.Goals as goal

pub write_step-requires-clause-told : goal.write_step-requires-clause-told
write_step-requires-clause-told g c =
    can_be_told c.args.most c.args.sent c.args.records c.next_step-step.new.records c.next_step-step.result c.next_step-step.ensures

pub returns-in_err-write_step-clause-err : goal.returns-in_err-write_step-clause-err
returns-in_err-write_step-clause-err g c =
    let a = c.args in
    let step = c.next_step-step.result in
    let new = c.next_step-step.new.records in
    on_err c.from_residual.result
    (breaks_more (exported a.most a.sent a.frame a.records new) (stepped a.most a.sent a.frame a.records new step)
    (step_text a.frame a.sent step) (g.W.Sink.taken a.writer.now) (g.W.Sink.taken c.write_step.new.writer)
    (stepped_sends a.most a.sent a.frame a.records new step c.next_step-step.ensures) c.in_err-write_step.ensures.1)

pub overflow_add-sent : goal.overflow_add-sent
overflow_add-sent g c =
    let a = c.args in
    omega (arith, next_counts a.most a.sent a.frame a.records c.next_step-step.new.records c.next_step-step.result c.next_step-step.ensures c.in-Next.field-0 c.in-Next.is)

pub returns-in-Next-clause-ok : goal.returns-in-Next-clause-ok
returns-in-Next-clause-ok g c =
    let a = c.args in
    let step = c.next_step-step.result in
    let new = c.next_step-step.new.records in
    record {
      text = step_text a.frame a.sent step;
      is = next_sends a.most a.sent a.frame a.records new step c.next_step-step.ensures c.in-Next.field-0 c.in-Next.is c.asked_behind-most.result c.asked_behind-most.ensures;
      wrote = c.in_ok-write_step.ensures.1;
    }

pub returns-in-Next-clause-progress : goal.returns-in-Next-clause-progress
returns-in-Next-clause-progress g c =
    let a = c.args in
    let step = c.next_step-step.result in
    let new = c.next_step-step.new.records in
    next_below a.most a.sent a.frame a.records new step c.next_step-step.ensures c.in-Next.field-0 c.in-Next.is c.asked_behind-most.result c.asked_behind-most.ensures

pub returns-in-Suspended-clause-ok : goal.returns-in-Suspended-clause-ok
returns-in-Suspended-clause-ok g c =
    let a = c.args in
    let step = c.next_step-step.result in
    let new = c.next_step-step.new.records in
    record {
      text = step_text a.frame a.sent step;
      is = stepped_is a.most a.sent a.frame a.records new step steps.Suspended c.next_step-step.ensures c.in-Suspended.is;
      wrote = c.in_ok-write_step.ensures.1;
    }

pub returns-in-Whole-clause-ok : goal.returns-in-Whole-clause-ok
returns-in-Whole-clause-ok g c =
    let a = c.args in
    let step = c.next_step-step.result in
    let new = c.next_step-step.new.records in
    record {
      text = step_text a.frame a.sent step;
      is = stepped_is a.most a.sent a.frame a.records new step steps.Whole c.next_step-step.ensures c.in-Whole.is;
      wrote = c.in_ok-write_step.ensures.1;
    }

pub returns-in-Cut-clause-ok : goal.returns-in-Cut-clause-ok
returns-in-Cut-clause-ok g c =
    let a = c.args in
    let step = c.next_step-step.result in
    let new = c.next_step-step.new.records in
    record {
      text = step_text a.frame a.sent step;
      is = stepped_is a.most a.sent a.frame a.records new step steps.Cut c.next_step-step.ensures c.in-Cut.is;
      wrote = c.in_ok-write_step.ensures.1;
    }

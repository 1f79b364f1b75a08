use Rattle.std.proofs.Common.{ℕ, ◌-◌, ◌∙◌, ap, subst}
use Rattle.base_core.proofs.Fronts.{on_err}
use Rattle.answer_core.specs.Remaining.{item_count}
use Rattle.answer_core.specs.Steps.{StopsCallAt, asked_of}
use Rattle.answer_core.specs.declared.steps.Stop.TheVariants as stops
use Rattle.answer_core.proofs.Going.{breaks_more}
use Rattle.answer_core.proofs.Steppings.{later_below, later_sends, listed, stopped, stopped_is, stopped_sends, stop_said}
use Rattle.answer_core.proofs.unsent.go_on_listed.Goals as goal

pub returns-in_err-write_part-clause-err : goal.returns-in_err-write_part-clause-err
returns-in_err-write_part-clause-err g c =
    let a = c.args in
    let count = c.next_part-part.result.0 in
    let stop = c.next_part-part.result.1 in
    let at : StopsCallAt (asked_of a.most (item_count a.items - a.next)) (item_count a.items - a.next) count stop =
    subst (λ (k : ℕ). StopsCallAt (asked_of a.most k) k count stop) (c.saturating_sub.ensures ∙ ap (λ (n : ℕ). n - a.next) c.len.ensures) c.next_part-part.ensures.stops in
    on_err c.from_residual.result
    (breaks_more (listed a.items a.next a.frame a.most count) (stopped a.items a.next a.frame a.most count stop)
    (stop_said a.items a.next a.frame a.most count stop) (g.W.Sink.taken a.writer.now) (g.W.Sink.taken c.write_part.new.writer)
    (stopped_sends a.items a.next a.frame a.most count stop at) c.in_err-write_part.ensures.1)

pub returns-in-Later-clause-ok : goal.returns-in-Later-clause-ok
returns-in-Later-clause-ok g c =
    let a = c.args in
    let count = c.next_part-part.result.0 in
    let stop = c.next_part-part.result.1 in
    let at : StopsCallAt (asked_of a.most (item_count a.items - a.next)) (item_count a.items - a.next) count stop =
    subst (λ (k : ℕ). StopsCallAt (asked_of a.most k) k count stop) (c.saturating_sub.ensures ∙ ap (λ (n : ℕ). n - a.next) c.len.ensures) c.next_part-part.ensures.stops in
    record {
      text = stop_said a.items a.next a.frame a.most count stop;
      is = later_sends a.items a.next a.frame a.most count stop at c.in-Later.is c.asked_behind-most.result c.asked_behind-most.ensures;
      wrote = c.in_ok-write_part.ensures.1;
    }

pub returns-in-Later-clause-progress : goal.returns-in-Later-clause-progress
returns-in-Later-clause-progress g c =
    let a = c.args in
    let count = c.next_part-part.result.0 in
    let stop = c.next_part-part.result.1 in
    let at : StopsCallAt (asked_of a.most (item_count a.items - a.next)) (item_count a.items - a.next) count stop =
    subst (λ (k : ℕ). StopsCallAt (asked_of a.most k) k count stop) (c.saturating_sub.ensures ∙ ap (λ (n : ℕ). n - a.next) c.len.ensures) c.next_part-part.ensures.stops in
    later_below a.items a.next a.frame a.most count stop at c.in-Later.is c.asked_behind-most.result c.asked_behind-most.ensures

pub returns-in-Suspended-clause-ok : goal.returns-in-Suspended-clause-ok
returns-in-Suspended-clause-ok g c =
    let a = c.args in
    let count = c.next_part-part.result.0 in
    let stop = c.next_part-part.result.1 in
    let at : StopsCallAt (asked_of a.most (item_count a.items - a.next)) (item_count a.items - a.next) count stop =
    subst (λ (k : ℕ). StopsCallAt (asked_of a.most k) k count stop) (c.saturating_sub.ensures ∙ ap (λ (n : ℕ). n - a.next) c.len.ensures) c.next_part-part.ensures.stops in
    record {
      text = stop_said a.items a.next a.frame a.most count stop;
      is = stopped_is a.items a.next a.frame a.most count stop stops.Suspended at c.in-Suspended.is;
      wrote = c.in_ok-write_part.ensures.1;
    }

pub returns-in-Whole-clause-ok : goal.returns-in-Whole-clause-ok
returns-in-Whole-clause-ok g c =
    let a = c.args in
    let count = c.next_part-part.result.0 in
    let stop = c.next_part-part.result.1 in
    let at : StopsCallAt (asked_of a.most (item_count a.items - a.next)) (item_count a.items - a.next) count stop =
    subst (λ (k : ℕ). StopsCallAt (asked_of a.most k) k count stop) (c.saturating_sub.ensures ∙ ap (λ (n : ℕ). n - a.next) c.len.ensures) c.next_part-part.ensures.stops in
    record {
      text = stop_said a.items a.next a.frame a.most count stop;
      is = stopped_is a.items a.next a.frame a.most count stop stops.Whole at c.in-Whole.is;
      wrote = c.in_ok-write_part.ensures.1;
    }

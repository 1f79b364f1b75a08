use Rattle.std.proofs.Common.{◌≡◌, ◌≤◌, ◌+◌, length, take, drop, flat_map, ap, ◌∙◌, refl}
use Rattle.base_core.proofs.Fronts.{on_err}
use Rattle.base_core.specs.declared.value.Row.{Row}
use Rattle.export_core.specs.Record.{row_line}
use Rattle.reply_core.specs.declared.pending.TheConstants.{LINES_AT_ONCE}
use Rattle.reply_core.proofs.PendingLemmas.{last_lines, lines_broken, more_lines}
use Rattle.reply_core.proofs.pending.go_on_rows.Goals as goal

pub returns-in_err-write_rows-clause-err : goal.returns-in_err-write_rows-clause-err
returns-in_err-write_rows-clause-err g c =
    let items = c.args.rows in
    let part = c.part_from-behind.result.0.now in
    let is : part ≡ take LINES_AT_ONCE (drop c.args.next items) =
    c.part_from-behind.ensures.part ∙ ap (λ l. take LINES_AT_ONCE (drop c.args.next l)) c.as_slice.ensures in
    on_err c.from_residual.result (record {
      text = flat_map (λ (r : Row). row_line r.values) (drop c.args.next items);
      is = refl;
      wrote = lines_broken (λ (r : Row). row_line r.values) items part c.args.next LINES_AT_ONCE is (g.W.Sink.taken c.args.writer.now) (g.W.Sink.taken c.write_rows.new.writer) c.in_err-write_rows.ensures.1;
    })

pub returns-in-Some-clause-ok : goal.returns-in-Some-clause-ok
returns-in-Some-clause-ok g c =
    let items = c.args.rows in
    let part = c.part_from-behind.result.0.now in
    let is : part ≡ take LINES_AT_ONCE (drop c.args.next items) =
    c.part_from-behind.ensures.part ∙ ap (λ l. take LINES_AT_ONCE (drop c.args.next l)) c.as_slice.ensures in
    let behind : c.in-Some.next ≡ c.args.next + LINES_AT_ONCE = rw c.in-Some.is at c.part_from-behind.ensures.behind in
    record {
      text = flat_map (λ (r : Row). row_line r.values) part;
      is = more_lines (λ (r : Row). row_line r.values) items part c.args.next LINES_AT_ONCE is c.in-Some.next behind;
      wrote = c.in_ok-write_rows.ensures.1;
    }

pub returns-in-None-clause-ok : goal.returns-in-None-clause-ok
returns-in-None-clause-ok g c =
    let items = c.args.rows in
    let part = c.part_from-behind.result.0.now in
    let is : part ≡ take LINES_AT_ONCE (drop c.args.next items) =
    c.part_from-behind.ensures.part ∙ ap (λ l. take LINES_AT_ONCE (drop c.args.next l)) c.as_slice.ensures in
    let none : length c.as_slice.result.now ≤ c.args.next + LINES_AT_ONCE = rw c.in-None.is at c.part_from-behind.ensures.last in
    let last : length items ≤ c.args.next + LINES_AT_ONCE = rw c.as_slice.ensures at none in
    record {
      text = flat_map (λ (r : Row). row_line r.values) part;
      is = last_lines (λ (r : Row). row_line r.values) items part c.args.next LINES_AT_ONCE is last;
      wrote = c.in_ok-write_rows.ensures.1;
    }

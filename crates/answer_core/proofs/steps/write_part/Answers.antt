use Rattle.std.proofs.Common.{◌++◌, take, drop}
use Rattle.std.specs.List.{concat}
use Rattle.base_core.proofs.Fronts.{front-first, text-broken, text-then}
use Rattle.answer_core.specs.Remaining.{item_count, item_rows}
use Rattle.answer_core.specs.Steps.{stop_text}
use Rattle.answer_core.proofs.steps.write_part.Goals as goal

pub returns-in_err-write_some : goal.returns-in_err-write_some
returns-in_err-write_some g c =
    let r = c.in_err-write_some.ensures in
    let frame = c.args.frame.now in
    let rows = concat (take c.args.part.0 (drop c.args.next (item_rows c.args.items.now frame.formats))) in
    let behind = stop_text frame (item_count c.args.items.now) c.args.part.1 in
    text-broken g.W.Sink.failed g.W.Sink.taken _ _ (rows ++ behind) c.from_residual.result c.from_residual.ensures.0
    (r.0, front-first _ _ rows behind r.1)

pub returns : goal.returns
returns g c =
    let frame = c.args.frame.now in
    let rows = concat (take c.args.part.0 (drop c.args.next (item_rows c.args.items.now frame.formats))) in
    text-then g.W.Sink.failed g.W.Sink.taken _ _ _ rows (stop_text frame (item_count c.args.items.now) c.args.part.1) c.write_stop.result
    c.in_ok-write_some.ensures.1 (rw c.len.ensures at c.write_stop.ensures)

use Rattle.std.proofs.Common.{◌∙◌, sym, ap, length, rules}
use Rattle.std.proofs.lemmas.Slice.Zip.{zip_end}
use Rattle.monitor_core.specs.Verdict.{each, takes}
use Rattle.monitor_core.proofs.Zipping.{zip-end}
use Rattle.monitor_core.proofs.checks.each_takes.Goals as goal

pub returns : goal.returns
returns c =
    let ended = zip_end c.args.columns.now c.args.values.now c.loop-column.yielded c.into_iter-column-iterator.result c.loop-column.column-iterator c.next.new.self c.next.result (search rules) (search rules) c.loop-column.yielded_by c.in-None.is c.next.ensures.steps in
    sym (ap (λ pairs. each pairs (λ pair. takes pair.0 pair.1)) (zip-end c.args.columns.now c.args.values.now (length c.loop-column.yielded) ended)) ∙ c.loop-column.invariant.2

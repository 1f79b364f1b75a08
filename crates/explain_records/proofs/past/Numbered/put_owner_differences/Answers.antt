use Rattle.std.proofs.Common.{◌++◌, ◌+◌, ◌∙◌, ap}
use Rattle.export_core.specs.Record.{text_in}
use Rattle.explain_records.specs.Differences.{owner_differences_by}
use Rattle.explain_records.specs.Telling.{lines}
use Rattle.explain_records.proofs.Lines.{numbered-more}
use Rattle.explain_records.proofs.past.Numbered.put_owner_differences.Goals as goal

pub loop-change-preserved : goal.loop-change-preserved
loop-change-preserved c =
    let l = c.loop-change in
    let done = c.in_ok-put_owner_difference.ensures in
    let old = text_in l.writer in
    let records = owner_differences_by c.args.self.now.numbers.now c.args.at.0 in
    record {
      now = ap (λ n. n + 1) l.invariant.now;
      written = numbered-more records c.changes-change-items.result.now l.change-index l.now c.change-item.result (text_in c.args.writer.now) old (text_in c.put_owner_difference.new.writer)
          c.loop-change-test.true l.invariant.now l.invariant.written
          (done.text ∙ ap (λ change. old ++ lines (records (l.now + 1) change)) c.change-item.is);
      between = done.between;
    }

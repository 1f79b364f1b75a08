use Rattle.std.proofs.Common.{◌++◌, ◌∙◌, ap}
use Rattle.export_core.specs.Record.{text_in}
use Rattle.explain_records.specs.Differences.{difference_records}
use Rattle.explain_records.specs.Telling.{lines}
use Rattle.explain_records.proofs.Lines.{lines-joined}
use Rattle.explain_records.proofs.past.Numbered.put_grant_differences.Goals as goal

pub loop-life-preserved : goal.loop-life-preserved
loop-life-preserved c =
    let l = c.loop-life in
    let old = text_in l.writer in
    let records = difference_records c.args.self.now.history.now c.args.self.now.numbers.now c.args.at.0 in
    let done = c.in_ok-put_any_difference.ensures in
    record {
      written = lines-joined records c.lives-life-items.result.now l.life-index c.life-item.result (text_in c.args.writer.now) old (text_in c.put_any_difference.new.writer)
          c.loop-life-test.true l.invariant.written (done.text ∙ ap (λ life. old ++ lines (records life)) c.life-item.is);
      between = done.between;
    }

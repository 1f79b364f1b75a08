use Rattle.std.proofs.Common.{◌++◌, ◌+◌, ◌∙◌, ap}
use Rattle.export_core.specs.Record.{text_in}
use Rattle.explain_records.specs.Records.{owner_records_by}
use Rattle.explain_records.specs.Telling.{lines}
use Rattle.explain_records.proofs.Lines.{numbered-more}
use Rattle.explain_records.proofs.rights.put_owners.Goals as goal

pub loop-change-preserved : goal.loop-change-preserved
loop-change-preserved c =
    let l = c.loop-change in
    let done = c.in_ok-put_owner_by.ensures in
    let old = text_in l.writer in
    record {
      at = ap (λ n. n + 1) l.invariant.at;
      written = numbered-more owner_records_by c.args.changes.now l.change-index l.at c.change-item.result (text_in c.args.writer.now) old (text_in c.put_owner_by.new.writer)
          c.loop-change-test.true l.invariant.at l.invariant.written
          (done.text ∙ ap (λ change. old ++ lines (owner_records_by (l.at + 1) change)) c.change-item.is);
      between = done.between;
    }

use Rattle.std.proofs.Common.{◌++◌, ◌∙◌, ap}
use Rattle.export_core.specs.Record.{text_in}
use Rattle.explain_records.specs.Givings.{givings_of}
use Rattle.explain_records.specs.Telling.{lines}
use Rattle.explain_records.proofs.Lines.{lines-joined}
use Rattle.explain_records.proofs.givings.Giver.put_all_givings.Goals as goal

pub loop-atom-preserved : goal.loop-atom-preserved
loop-atom-preserved c =
    let l = c.loop-atom in
    let old = text_in l.writer in
    let records = givings_of c.args.self.now.history.now c.args.self.now.by in
    let done = c.in_ok-put_givings.ensures in
    record {
      written = lines-joined records c.args.atoms.now l.atom-index c.atom-item.result (text_in c.args.writer.now) old (text_in c.put_givings.new.writer)
          c.loop-atom-test.true l.invariant.written (done.text ∙ ap (λ it. old ++ lines (records it)) c.atom-item.is);
      between = done.between;
    }

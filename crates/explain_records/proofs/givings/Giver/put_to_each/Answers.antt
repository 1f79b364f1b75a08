use Rattle.std.proofs.Common.{◌++◌, ◌∙◌, ap}
use Rattle.export_core.specs.Record.{text_in}
use Rattle.explain_records.specs.Givings.{giving_records}
use Rattle.explain_records.specs.Telling.{lines}
use Rattle.explain_records.proofs.Lines.{lines-joined}
use Rattle.explain_records.proofs.givings.Giver.put_to_each.Goals as goal

pub loop-user-preserved : goal.loop-user-preserved
loop-user-preserved c =
    let l = c.loop-user in
    let old = text_in l.writer in
    let records = giving_records c.args.self.now.history.now c.args.self.now.by c.args.atom.now in
    let done = c.in_ok-put_giving.ensures in
    record {
      written = lines-joined records c.args.users.now l.user-index c.user-item.result (text_in c.args.writer.now) old (text_in c.put_giving.new.writer)
          c.loop-user-test.true l.invariant.written (done.text ∙ ap (λ it. old ++ lines (records it)) c.user-item.is);
      between = done.between;
    }

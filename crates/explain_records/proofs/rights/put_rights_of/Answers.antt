use Rattle.std.proofs.Common.{◌++◌, ◌∙◌, ap, sym, subst}
use Rattle.export_core.specs.Record.{IsBetween, record_line, text_in}
use Rattle.explain_records.specs.Records.{is_of_one, right_record}
use Rattle.explain_records.proofs.Lines.{lines-chosen, lines-passed_over}
use Rattle.explain_records.proofs.rights.put_rights_of.Goals as goal
use Rattle.explain_records.proofs.rights.put_rights_of.Goals.{then-is_of_one+in_ok-put_right, else-is_of_one}

pub loop-grant-preserved : goal.loop-grant-preserved
loop-grant-preserved c =
    let l = c.loop-grant in
    let atoms = c.args.atoms.now in
    let grants = c.args.grants.now in
    let old = text_in l.writer in
    let start = text_in c.args.writer.now in
    let test = ap (is_of_one atoms) (sym c.grant-item.is) ∙ sym c.is_of_one.ensures in
    elim c.if-is_of_one.branch [
      | then-is_of_one+in_ok-put_right w ↦
          record {
            written = ap text_in w.writer-is
                ∙ lines-chosen right_record (is_of_one atoms) grants l.grant-index c.grant-item.result start old (text_in w.put_right.new.writer)
                c.loop-grant-test.true (test ∙ w.if-is_of_one.true) l.invariant.written
                (w.in_ok-put_right.ensures.text ∙ ap (λ g. old ++ record_line (right_record g)) c.grant-item.is);
            between = subst IsBetween (sym w.writer-is) w.in_ok-put_right.ensures.between;
          }
      | else-is_of_one w ↦
          record {
            written = ap text_in w.writer-is
                ∙ lines-passed_over right_record (is_of_one atoms) grants l.grant-index c.grant-item.result start old
                c.loop-grant-test.true (test ∙ w.if-is_of_one.false) l.invariant.written;
            between = subst IsBetween (sym w.writer-is) l.invariant.between;
          }
    ]

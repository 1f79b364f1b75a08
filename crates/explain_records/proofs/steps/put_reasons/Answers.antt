use Rattle.std.proofs.Common.{subst}
use Rattle.export_core.specs.Record.{text_in}
use Rattle.explain_records.specs.Steps.{TellsReason}
use Rattle.explain_records.proofs.Lines.{told-more}
use Rattle.explain_records.proofs.steps.put_reasons.Goals as goal

pub loop-atom-preserved : goal.loop-atom-preserved
loop-atom-preserved c =
    let l = c.loop-atom in
    let Tells = TellsReason c.args.past.now.history.now c.args.past.now.numbers.now c.args.user.now in
    let (last, tells, grown) = c.in_ok-put_reason.ensures.text in
    record {
      told = told-more Tells c.args.atoms.now l.atom-index c.atom-item.result (text_in c.args.writer.now) (text_in l.writer) (text_in c.put_reason.new.writer)
          c.loop-atom-test.true l.invariant.told (last, subst (λ it. Tells it last) c.atom-item.is tells, grown);
      between = c.in_ok-put_reason.ensures.between;
    }

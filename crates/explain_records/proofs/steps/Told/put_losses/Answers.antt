use Rattle.std.proofs.Common.{subst}
use Rattle.export_core.specs.Record.{text_in}
use Rattle.explain_records.specs.Steps.{TellsLoss}
use Rattle.explain_records.proofs.Lines.{told-more}
use Rattle.explain_records.proofs.steps.Told.put_losses.Goals as goal

pub loop-life-preserved : goal.loop-life-preserved
loop-life-preserved c =
    let l = c.loop-life in
    let Tells = TellsLoss c.args.self.now.past.history.now c.args.self.now.past.numbers.now c.args.self.now.user c.args.self.now.atom in
    let (last, tells, grown) = c.in_ok-put_loss.ensures.text in
    record {
      told = told-more Tells c.args.given.now l.life-index c.life-item.result (text_in c.args.writer.now) (text_in l.writer) (text_in c.put_loss.new.writer)
          c.loop-life-test.true l.invariant.told (last, subst (λ it. Tells it last) c.life-item.is tells, grown);
      between = c.in_ok-put_loss.ensures.between;
    }

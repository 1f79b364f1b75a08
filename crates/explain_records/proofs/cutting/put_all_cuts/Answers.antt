use Rattle.std.proofs.Common.{subst}
use Rattle.export_core.specs.Record.{text_in}
use Rattle.explain_records.specs.Cuttings.{TellsCut}
use Rattle.explain_records.proofs.Lines.{told-more}
use Rattle.explain_records.proofs.cutting.put_all_cuts.Goals as goal

pub loop-atom-preserved : goal.loop-atom-preserved
loop-atom-preserved c =
    let l = c.loop-atom in
    let Tells = TellsCut c.args.history.now c.args.user.now in
    let (last, tells, grown) = c.in_ok-put_cut_of.ensures.text in
    record {
      told = told-more Tells c.args.atoms.now l.atom-index c.atom-item.result (text_in c.args.writer.now) (text_in l.writer) (text_in c.put_cut_of.new.writer)
          c.loop-atom-test.true l.invariant.told (last, subst (λ it. Tells it last) c.atom-item.is tells, grown);
      between = c.in_ok-put_cut_of.ensures.between;
    }

use Rattle.std.proofs.Common.{◌∙◌, ap, sym, take}
use Rattle.explain_records.specs.Noted.{taken_among, taken_with}
use Rattle.explain_records.proofs.OutcomeLemmas.{taken-more}
use Rattle.explain_records.proofs.outcomes.Outcomes.note_all_taken.Goals as goal

pub loop-life-preserved : goal.loop-life-preserved
loop-life-preserved c = λ w.
    let lives = c.args.lives.now in
    let i = c.loop-life.life-index in
    c.in_ok-note_taken.ensures w ∙ ap (taken_with c.args.at c.life-item.result w) (c.loop-life.invariant w)
    ∙ ap (λ life. taken_with c.args.at life w (taken_among c.args.at w (take i lives))) c.life-item.is
    ∙ sym (taken-more c.args.at w lives i c.life-item.result c.loop-life-test.true)

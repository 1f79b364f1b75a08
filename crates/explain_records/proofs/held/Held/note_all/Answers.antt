use Rattle.std.proofs.Common.{◌∙◌, ap, sym, take}
use Rattle.explain_records.specs.Held.{held_as, held_with}
use Rattle.explain_records.proofs.HeldLemmas.{held-more}
use Rattle.explain_records.proofs.held.Held.note_all.Goals as goal

pub loop-life-preserved : goal.loop-life-preserved
loop-life-preserved c = λ w.
    let lives = c.args.lives.now in
    let i = c.loop-life.life-index in
    c.in_ok-note.ensures w ∙ ap (held_with c.life-item.result w) (c.loop-life.invariant w)
    ∙ ap (λ life. held_with life w (held_as (take i lives) w)) c.life-item.is
    ∙ sym (held-more w lives i c.life-item.result c.loop-life-test.true)

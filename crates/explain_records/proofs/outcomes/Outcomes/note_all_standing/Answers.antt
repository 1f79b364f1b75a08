use Rattle.std.proofs.Common.{◌∙◌, ap, option_map, sym, take}
use Rattle.indexmap.specs.IndexMap.{get}
use Rattle.grants_core.specs.Keys.{same_holding}
use Rattle.explain_records.specs.Noted.{standing_among, standing_with}
use Rattle.explain_records.proofs.OutcomeLemmas.{standing-more, standing-start}
use Rattle.explain_records.proofs.outcomes.Outcomes.note_all_standing.Goals as goal

pub loop-life-init : goal.loop-life-init
loop-life-init c = λ w. standing-start w (get same_holding c.args.self.now.of w)

pub loop-life-preserved : goal.loop-life-preserved
loop-life-preserved c = λ w.
    let lives = c.args.lives.now in
    let i = c.loop-life.life-index in
    let old = get same_holding c.args.self.now.of w in
    c.in_ok-note_standing.ensures w ∙ ap (option_map (standing_with c.life-item.result w)) (c.loop-life.invariant w)
    ∙ ap (λ life. option_map (standing_with life w) (option_map (standing_among w (take i lives)) old)) c.life-item.is
    ∙ sym (standing-more w lives i c.life-item.result old c.loop-life-test.true)

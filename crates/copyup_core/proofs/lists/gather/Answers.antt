use Rattle.std.proofs.Common.{◌<◌, ◌∙◌, [], None, sym, length, get_or, arith}
use Rattle.std.proofs.lemmas.List.{get_or_default}
use Rattle.copyup_core.specs.declared.state.State.TheVariants.{Live}
use Rattle.copyup_core.specs.Parallel.{slot_of, slots_of}
use Rattle.copyup_core.proofs.Parallel.{element, length-slots_of, live-at}
use Rattle.copyup_core.proofs.Gathering.{gathered-all, gathered-dead, gathered-swapped}
use Rattle.copyup_core.proofs.lists.gather.Goals as goal
use Rattle.copyup_core.proofs.lists.gather.Goals.{then-is_live, else-is_live}

pub loop-at-preserved : goal.loop-at-preserved
loop-at-preserved g c =
    let k = c.loop-at.invariant in
    let es = c.loop-at.entries in
    let ss = c.loop-at.states in
    let i = c.loop-at.at in
    let old = slots_of c.args.entries.now c.args.states.now [] in
    let n = length-slots_of c.args.entries.now c.args.states.now [] c.requires in
    let lo : i < length old = omega (arith, n, c.requires, c.loop-at-test.true) in
    let lt : i < length es = omega (arith, n, lo, k.0) in
    let h = k.1 ∙ c.requires ∙ sym k.0 in
    let a = get_or es i (element es i lt) in (
      c.if-is_live.auto.entries ∙ k.0,
      c.if-is_live.auto.states ∙ k.1,
      elim c.if-is_live.branch [
        | then-is_live w ↦ rw (w.entries-is, w.states-is, w.to-is) (gathered-swapped old es w.swap.new.self ss i c.loop-at.to a h lo k.2 (get_or_default es i (element es i lt) a lt) (sym c.is_live.ensures ∙ w.if-is_live.true) (w.swap.ensures.by_index.3 a))
        | else-is_live w ↦ (let d = slot_of a Live None in rw (w.entries-is, w.states-is, w.to-is) (gathered-dead old (slots_of es ss []) i c.loop-at.to d k.2 lo (live-at es ss [] i d Live h lt ∙ sym c.is_live.ensures ∙ w.if-is_live.false)))
      ],
    )

pub returns-clause-live : goal.returns-clause-live
returns-clause-live g c =
    let es = c.args.entries.now in
    let ss = c.args.states.now in
    let n = length-slots_of es ss [] c.requires in
    gathered-all (slots_of es ss []) _ c.loop-at.at c.loop-at.to c.loop-at.invariant.2 (omega (arith, n, c.requires, c.loop-at-test.false))

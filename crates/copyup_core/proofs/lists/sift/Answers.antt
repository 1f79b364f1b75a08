use Rattle.std.proofs.Common.{◌<◌, ◌∙◌, sym, length, arith}
use Rattle.copyup_core.specs.Parallel.{slots_of}
use Rattle.copyup_core.proofs.Parallel.{length-slots_of}
use Rattle.copyup_core.proofs.Sifting.{sifted-all, turn-out, turn-kept}
use Rattle.copyup_core.proofs.lists.sift.Goals as goal
use Rattle.copyup_core.proofs.lists.sift.Goals.{then-is_sifted_out, else-is_sifted_out}

pub loop-at-preserved : goal.loop-at-preserved
loop-at-preserved g c =
    let k = c.loop-at.invariant in
    let es = c.args.entries.now in
    let ss = c.loop-at.states in
    let ks = c.args.kept.now in
    let keeps = g.S.Sieve.keeps c.args.sieve.now in
    let old = slots_of es c.args.states.now ks in
    let n = length-slots_of es c.args.states.now ks c.requires in
    let lo : c.loop-at.at < length old = omega (arith, n, c.requires, c.loop-at-test.true) in (
      c.if-is_sifted_out.auto.states ∙ k.0,
      elim c.if-is_sifted_out.branch [
        | then-is_sifted_out w ↦ (let changed = rw w.is_wanted.ensures at w.state_without_item.ensures in rw (w.states-is, w.dropped-is) (turn-out keeps c.args.capture old es ss ks c.loop-at.at c.loop-at.dropped c.index-entries-at.result w.state_without_item.result (k.0 ∙ c.requires) lo k.1 (sym c.is_sifted_out.ensures ∙ w.if-is_sifted_out.true) changed))
        | else-is_sifted_out w ↦ rw (w.states-is, w.dropped-is) (turn-kept keeps c.args.capture old es ss ks c.loop-at.at c.loop-at.dropped c.index-entries-at.result (k.0 ∙ c.requires) lo k.1 (sym c.is_sifted_out.ensures ∙ w.if-is_sifted_out.false))
      ],
    )

pub returns-clause-sifted : goal.returns-clause-sifted
returns-clause-sifted g c =
    let es = c.args.entries.now in
    let ss = c.args.states.now in
    let n = length-slots_of es ss c.args.kept.now c.requires in
    sifted-all (g.S.Sieve.keeps c.args.sieve.now) c.args.capture _ _ c.loop-at.at c.loop-at.dropped c.loop-at.invariant.1 (omega (arith, n, c.requires, c.loop-at-test.false))

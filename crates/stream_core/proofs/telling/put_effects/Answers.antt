use Rattle.std.proofs.Common.{◌≡◌, ◌∙◌, ◌∷◌, ◌+◌, ◌-◌, ◌++◌, List, length, ap, sym, drop, arith}
use Rattle.std.proofs.lemmas.List.{drop_more}
use Rattle.export_core.specs.Record.{text_in}
use Rattle.stream_core.specs.declared.effect.Effect.{Effect}
use Rattle.stream_core.specs.Lines.{effect_line}
use Rattle.stream_core.proofs.Texts.{lines-more}
use Rattle.stream_core.proofs.telling.put_effects.Goals as goal

pub loop-effect-preserved : goal.loop-effect-preserved
loop-effect-preserved c =
    let l = c.loop-effect in
    let effects = c.args.effects.now in
    let e : Effect = c.effect-item.result in
    let rest : List Effect = drop (l.effect-index + 1) effects in
    let here : drop l.effect-index effects ≡ e ∷ rest = drop_more effects l.effect-index e c.loop-effect-test.true ∙ ap (λ a. a ∷ rest) (sym c.effect-item.is) in
    let long = ap (λ es. length es) here in
    let left : l.left - 1 ≡ length rest = omega (arith, l.invariant.left, long) in
    record {
      written = lines-more (text_in c.args.writer.now) (text_in l.writer) (text_in c.put_effect.new.writer) c.args.moment (drop l.effect-index effects) effects e rest here l.invariant.written
          (c.in_ok-put_effect.ensures.text ∙ ap (λ n. text_in l.writer ++ effect_line c.args.moment n e) left);
      left = left;
      between = c.in_ok-put_effect.ensures.between;
    }

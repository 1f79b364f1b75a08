use Rattle.std.proofs.Common.{◌≡◌, ◌++◌, drop, length}
use Rattle.export_core.specs.Record.{IsBetween, text_in}
use Rattle.stream_core.specs.Lines.{effect_lines}
use Rattle.stream_core.proofs.telling.put_effects.Given as goal

abbrev pub invariant-loop-effect : goal.invariant-loop-effect
invariant-loop-effect l = record {
  written : text_in l.writer ++ effect_lines l.moment (drop l.effect-index l.effects) ≡ text_in l.initial.writer ++ effect_lines l.moment l.effects;
  left : l.left ≡ length (drop l.effect-index l.effects);
  between : IsBetween l.writer;
}

use Rattle.std.proofs.Common.{◌≡◌, map, take}
use Rattle.reply_core.specs.Texts.{joined}
use Rattle.explain_text.proofs.words.joined.Given as goal

abbrev pub invariant-loop-part : goal.invariant-loop-part
invariant-loop-part l = l.text.items ≡ joined (map (λ part. part.now) (take l.part-index l.parts))

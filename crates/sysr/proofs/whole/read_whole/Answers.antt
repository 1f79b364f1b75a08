use Rattle.std.proofs.Common.{◌≡◌, ◌<◌, ◌+◌, ◌++◌, ◌∙◌, length, take, ap, arith}
use Rattle.std.proofs.KnownBytes.{Consumes-trans}
use Rattle.std.proofs.lemmas.List.{length-append, length-take-le}
use Rattle.sysr.proofs.whole.read_whole.Goals as goal

pub returns-then-read-most-clause-long : goal.returns-then-read-most-clause-long
returns-then-read-most-clause-long g c = λ _.
    let text = c.loop.text.items in
    let read = c.in-Ok.read in
    let piece = take read c.read.new.into in
    let long : length (text ++ piece) ≡ length text + read = length-append text piece ∙ ap (λ n. length text + n) (length-take-le read c.read.new.into c.in-Ok.ensures.count) in
    let more : c.args.most < length text + read = omega arith in (
      text ++ piece,
      Consumes-trans _ _ _ _ _ c.loop.invariant.1 c.in-Ok.ensures.bytes.0,
      rw long more,
    )

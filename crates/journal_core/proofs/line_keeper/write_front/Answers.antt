use Rattle.std.proofs.Common.{List, ℕ, take, drop, ap, sym, subst, length, length-drop, arith}
use Rattle.std.specs.Io.KnownBytes.{Appends}
use Rattle.std.proofs.KnownBytes.{Appends-trans}
use Rattle.std.proofs.Math.Seq.{take-add}
use Rattle.std.proofs.lemmas.List.{take_rest}
use Rattle.journal_core.proofs.line_keeper.write_front.Goals as goal

pub loop-count-preserved : goal.loop-count-preserved
loop-count-preserved g c =
    let taken = g.W.Sink.taken in
    let bytes = c.args.bytes.now in
    let n = c.loop-count.count in
    let more = c.in-Ok.more in
    let front = c.loop-count.invariant.2 in
    let wrote = subst (λ (t : List ℕ). Appends (taken c.loop-count.sink) (taken c.write.new.self) t) (ap (take more) (take_rest bytes n)) c.in-Ok.ensures.bytes in
    let both = Appends-trans (taken c.args.sink.now) (taken c.loop-count.sink) (taken c.write.new.self) (take n bytes) (take more (drop n bytes)) front wrote in
    let left = ap length (take_rest bytes n) in
    (omega (arith, left, length-drop n bytes, c.in-Ok.ensures.count), c.in-Ok.ensures.failed, subst (λ (t : List ℕ). Appends (taken c.args.sink.now) (taken c.write.new.self) t) (sym (take-add n more bytes)) both)

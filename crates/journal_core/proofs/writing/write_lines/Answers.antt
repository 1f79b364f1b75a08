use Rattle.std.proofs.Common.{List, ℕ, arith, subst}
use Rattle.std.specs.Io.KnownBytes.{Appends}
use Rattle.base_core.specs.Streams.{WritesFront}
use Rattle.base_core.proofs.Fronts.{text-broken}
use Rattle.printer_core.proofs.Shortest.{no_shorter}
use Rattle.journal_core.specs.Text.{WasRead, journal_text}
use Rattle.journal_core.proofs.Lines.{at-place, line-more, line-broken}
use Rattle.journal_core.proofs.writing.write_lines.Goals as goal

pub line-requires : goal.line-requires
line-requires g c =
    let e = c.entry-item.result in
    let read : WasRead e = rw c.entry-item.is (at-place WasRead c.args.entries.now c.loop-entry.entry-index e (omega arith) c.requires.read) in
    omega (arith, no_shorter read.line e.statement read.spelled, read.spelled.says.short)

pub returns-in_err-write_all : goal.returns-in_err-write_all
returns-in_err-write_all g c =
    let a = g.W.Sink.taken c.args.writer.now in
    let b = g.W.Sink.taken c.loop-entry.writer in
    let d = g.W.Sink.taken c.write_all.new.writer in
    let r = c.in_err-write_all.ensures in
    text-broken g.W.Sink.failed g.W.Sink.taken _ _ (journal_text c.args.entries.now) c.from_residual.result c.from_residual.ensures.0 (
      r.0,
      line-broken c.args.entries.now c.loop-entry.entry-index c.entry-item.result (omega arith) c.entry-item.is a b d c.loop-entry.invariant.1
          (subst (λ (t : List ℕ). WritesFront b d t) c.line.ensures r.1),
    )

pub loop-entry-preserved : goal.loop-entry-preserved
loop-entry-preserved g c =
    let a = g.W.Sink.taken c.args.writer.now in
    let b = g.W.Sink.taken c.loop-entry.writer in
    let d = g.W.Sink.taken c.write_all.new.writer in
    let r = c.in_ok-write_all.ensures in (
      r.0,
      line-more c.args.entries.now c.loop-entry.entry-index c.entry-item.result (omega arith) c.entry-item.is a b d c.loop-entry.invariant.1
          (subst (λ (t : List ℕ). Appends b d t) c.line.ensures r.1),
    )

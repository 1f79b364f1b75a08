use Rattle.std.proofs.Common.{◌≡◌, false, take}
use Rattle.std.specs.Io.KnownBytes.{Appends}
use Rattle.journal_core.specs.Text.{journal_text}
use Rattle.journal_core.proofs.writing.write_lines.Given as goal

-- the lines of the entries so far were written
abbrev pub invariant-loop-entry : goal.invariant-loop-entry
invariant-loop-entry g l =
    (g.W.Sink.failed l.writer ≡ false)
    × Appends (g.W.Sink.taken l.initial.writer) (g.W.Sink.taken l.writer) (journal_text (take l.entry-index l.entries))

use Rattle.std.proofs.Common.{◌≡◌, ℕ, false, List, ◌++◌, length, flat_map}
use Rattle.std.specs.Io.KnownBytes.{Appends}
use Rattle.export_core.specs.Record.{doubled_byte}
use Rattle.reply_core.proofs.records.write_doubled.Given as goal

-- what was written is the text but for the rest
abbrev pub invariant-loop-n : goal.invariant-loop-n
invariant-loop-n g l =
    (g.W.Sink.failed l.writer ≡ false)
    × ((part : List ℕ)
    × Appends (g.W.Sink.taken l.initial.writer) (g.W.Sink.taken l.writer) part
    × (part ++ flat_map doubled_byte l.rest ≡ flat_map doubled_byte l.text))

abbrev pub decreases-loop-n : goal.decreases-loop-n
decreases-loop-n g l = length l.rest

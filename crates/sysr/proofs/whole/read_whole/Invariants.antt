use Rattle.std.proofs.Common.{◌≡◌, ◌≤◌, false, length}
use Rattle.std.specs.Io.KnownBytes.{Consumes}
use Rattle.sysr.proofs.whole.read_whole.Given as goal

-- what was read is the text
abbrev pub invariant-loop : goal.invariant-loop
invariant-loop g l =
    (g.S.Source.failed l.reader ≡ false)
    × Consumes (g.S.Source.left l.initial.reader) (g.S.Source.left l.reader) l.text.items
    × (length l.text.items ≤ l.most)

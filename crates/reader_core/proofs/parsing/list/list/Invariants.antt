use Rattle.std.proofs.Common.{length}
use Rattle.reader_core.proofs.Lists.{SoFar}
use Rattle.reader_core.specs.Saying.{separator_lexeme}
use Rattle.reader_core.proofs.parsing.list.list.Given as goal

-- the items so far, and a separator behind each
abbrev pub invariant-loop-list : goal.invariant-loop-list
invariant-loop-list g l = SoFar g.T.Item.rule (separator_lexeme g.T.Item.SEPARATOR) g.T.Item.grammar g.T.Item.first g.T.Item.says g.T.Item.well_formed (g.L.Gathered.items_of l.list) l.fn.reader l.reader

abbrev pub decreases-loop-list : goal.decreases-loop-list
decreases-loop-list g l = length l.reader.rest

use Rattle.std.proofs.Common.{◌≡◌, length}
use Rattle.explain_core.specs.Supports.{AreLongest}
use Rattle.explain_core.specs.Reading.{IsRead, AreEarlier}
use Rattle.explain_core.proofs.history.read_lives.Given as goal

-- the lives and supports of the grants so far
abbrev pub invariant-loop-next : goal.invariant-loop-next
invariant-loop-next l = record {
  counted : length l.lives.items ≡ l.next-index;
  read : IsRead l.changes l.made l.lives.items l.places.items;
  longest : AreLongest l.lives.items l.supports;
  early : AreEarlier l.made l.lives.items l.supports;
}

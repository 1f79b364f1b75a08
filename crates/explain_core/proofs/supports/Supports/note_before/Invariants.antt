use Rattle.std.proofs.Common.{length, ◌-◌}
use Rattle.explain_core.specs.Supports.{AreLongest, AreEarly}
use Rattle.explain_core.proofs.supports.Supports.note_before.Given as goal

-- of the lives so far the longest are noted
abbrev pub invariant-loop-self : goal.invariant-loop-self
invariant-loop-self l = record {
  longest : AreLongest l.lives l.self;
  early : AreEarly l.lives l.self l.moment;
}

abbrev pub decreases-loop-self : goal.decreases-loop-self
decreases-loop-self l = length l.lives - l.self.noted

use Rattle.std.proofs.Common.{◌≡◌, Some}
use Rattle.session_core.specs.Tending.{Tends}
use Rattle.checkpoint_core.proofs.tending.CheckpointTakerTender.tend.Given as goal

-- the pass is one of this desk, through which nothing else was done
abbrev pub invariant-loop : goal.invariant-loop
invariant-loop g l = (l.pass.lock ≡ Some l.desk) × Tends l.desk l.initial.pass l.pass

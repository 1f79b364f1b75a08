use Rattle.session_core.specs.Checking.{LooksRepeatedly}
use Rattle.session_core.specs.Gains.{Watches}
use Rattle.session_core.proofs.checkpointing.checkpointer.Given as goal

-- what was done through the pass since the call began: looks, by which it gained nothing
abbrev pub invariant-loop : goal.invariant-loop
invariant-loop g l = record { looks : LooksRepeatedly l.desk l.initial.pass l.pass; watches : Watches l.initial.pass l.pass }

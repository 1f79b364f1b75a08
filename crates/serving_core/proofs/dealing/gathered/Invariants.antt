use Rattle.std.proofs.Common.{◌≡◌, ◌+◌, vec_len}
use Rattle.std.specs.Prelude.{All}
use Rattle.server_core.specs.Sessions.{IsWorkers}
use Rattle.serving_core.proofs.Back.{AreBack}
use Rattle.serving_core.proofs.dealing.gathered.Given as goal

-- those that are left served sessions, and those that came back are counted
abbrev pub invariant-loop-worker : goal.invariant-loop-worker
invariant-loop-worker g l = record {
  served : All (IsWorkers g.M.SessionMachine.protocol l.entrance l.begun.value.journal l.desk) l.workers.items;
  back : AreBack g.M.SessionMachine.protocol l.entrance l.begun.value.journal l.desk l.passes.items l.all.amount;
  parts : l.all.parts + vec_len l.workers ≡ l.initial.all.parts + vec_len l.initial.workers;
}

abbrev pub decreases-loop-worker : goal.decreases-loop-worker
decreases-loop-worker g l = vec_len l.workers

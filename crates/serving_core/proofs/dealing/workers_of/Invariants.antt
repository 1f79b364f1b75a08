use Rattle.std.proofs.Common.{◌≡◌, ◌+◌, ◌≤◌, vec_len}
use Rattle.std.specs.Prelude.{All}
use Rattle.server_core.specs.Sessions.{IsNew, IsNewWorker}
use Rattle.serving_core.proofs.dealing.workers_of.Given as goal

-- those that are left are new, those that were dealt have served nobody, and each took a part
abbrev pub invariant-loop-pass : goal.invariant-loop-pass
invariant-loop-pass g l = record {
  new : All (IsNew l.begun.value.journal l.desk) l.passes.items;
  idle : All (IsNewWorker l.begun.value.journal l.desk) l.workers.items;
  parts : l.rest.parts + vec_len l.initial.passes ≡ l.initial.rest.parts + vec_len l.passes;
  enough : vec_len l.passes ≤ l.rest.parts;
  nothing : l.rest.amount ≡ 0;
}

abbrev pub decreases-loop-pass : goal.decreases-loop-pass
decreases-loop-pass g l = vec_len l.passes

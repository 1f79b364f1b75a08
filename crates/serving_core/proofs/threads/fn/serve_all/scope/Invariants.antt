use Rattle.std.proofs.Common.{ℕ, ◌<◌, get_or}
use Rattle.std.specs.Prelude.{All}
use Rattle.std.specs.Vec.Iter.{into_iter_items, into_iter_len}
use Rattle.server_core.specs.Sessions.{IsNewWorker}
use Rattle.serving_core.specs.Promises.{IsOfServer}
use Rattle.serving_core.proofs.threads.fn.serve_all.scope.Given as goal

-- the workers that are left have served nobody, and each thread promised of one of this desk
abbrev pub invariant-loop-worker : goal.invariant-loop-worker
invariant-loop-worker g l =
    ((k : ℕ) (d : _) → k < into_iter_len l.worker-iterator → IsNewWorker l.begun.value.journal l.desk (get_or (into_iter_items l.worker-iterator) k d))
    × All (λ w. IsOfServer l.desk l.begun l.service.entrance.now w.promise) l.threads.items

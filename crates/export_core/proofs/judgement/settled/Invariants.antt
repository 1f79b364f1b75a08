use Rattle.std.proofs.Common.{◌≡◌, take, map}
use Rattle.std.specs.List.{zip}
use Rattle.export_core.specs.Walk as walks
use Rattle.export_core.proofs.judgement.settled.Given as goal

abbrev pub invariant-loop-at : goal.invariant-loop-at
invariant-loop-at l = l.judged.items ≡ map (walks.settled l.image l.user) (take l.at (zip l.tables l.now))

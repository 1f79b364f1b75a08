use Rattle.std.proofs.Common.{◌≡◌}
use Rattle.std.specs.Prelude.{Some, []}
use Rattle.session_core.specs.Gains.{Watches}
use Rattle.server_core.proofs.holding.Holding.tell_all.Given as goal

-- the pass is one of the desk, and has only looked, and nothing is gathered
abbrev pub invariant-loop-held : goal.invariant-loop-held
invariant-loop-held g l = record { own : l.pass.lock ≡ Some l.desk; watched : Watches l.fn.pass l.pass; nothing : l.room-inside.speech.output.items ≡ [] }

abbrev pub decreases-loop-held : goal.decreases-loop-held
decreases-loop-held g l = goal.left-loop-held g l

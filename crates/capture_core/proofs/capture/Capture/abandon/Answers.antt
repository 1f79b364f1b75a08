use Rattle.std.proofs.Common.{rules}
use Rattle.capture_core.proofs.capture.Capture.abandon.Goals as goal

pub returns-clause-after : goal.returns-clause-after
returns-clause-after c = search rules

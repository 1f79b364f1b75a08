use Rattle.std.proofs.Common.{rules}
use Rattle.capture_core.proofs.capture.Capture.step.Goals as goal

pub returns-then-is_err-clause-err : goal.returns-then-is_err-clause-err
returns-then-is_err-clause-err c = search rules

pub returns-then-left-gt0-clause-tells : goal.returns-then-left-gt0-clause-tells
returns-then-left-gt0-clause-tells c = search rules

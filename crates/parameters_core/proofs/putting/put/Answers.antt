use Rattle.std.proofs.Common.{◌+◌, [], ◌∷◌, length, arith}
use Rattle.parameters_core.specs.declared.fault.FillFault.TheVariants as faults
use Rattle.parameters_core.specs.Putting.{IsPutFault}
use Rattle.parameters_core.proofs.Puts.{exit, put_made}
use Rattle.parameters_core.proofs.putting.put.Goals as goal

pub returns-then-len-ge-MAX_LINE-clause-faulty : goal.returns-then-len-ge-MAX_LINE-clause-faulty
returns-then-len-ge-MAX_LINE-clause-faulty c = omega (arith, c.args.line.now.ok.0)

pub returns-in_err-push-clause-faulty : goal.returns-in_err-push-clause-faulty
returns-in_err-push-clause-faulty c = exit (IsPutFault (length c.args.line.now.items + 1)) _ faults.NoMemory c.from_residual.ensures.1 tt

pub returns-clause-put : goal.returns-clause-put
returns-clause-put c = put_made (c.args.byte ∷ []) c.args.line.now.items c.push.new.self.items c.in_ok-push.ensures.items (omega (arith, c.args.line.now.ok.0))

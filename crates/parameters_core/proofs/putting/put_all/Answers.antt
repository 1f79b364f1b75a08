use Rattle.std.proofs.Common.{◌+◌, length, arith}
use Rattle.parameters_core.specs.declared.fault.FillFault.TheVariants as faults
use Rattle.parameters_core.specs.Putting.{IsPutFault}
use Rattle.parameters_core.proofs.Puts.{exit, put_made}
use Rattle.parameters_core.proofs.putting.put_all.Goals as goal

pub returns-in_err-extend_from_slice-clause-faulty : goal.returns-in_err-extend_from_slice-clause-faulty
returns-in_err-extend_from_slice-clause-faulty c = exit (IsPutFault (length c.args.line.now.items + length c.args.bytes.now)) _ faults.NoMemory c.from_residual.ensures.1 tt

pub returns-clause-put : goal.returns-clause-put
returns-clause-put c = put_made c.args.bytes.now c.args.line.now.items c.extend_from_slice.new.self.items c.in_ok-extend_from_slice.ensures.items (omega (arith, c.args.line.now.ok.0))

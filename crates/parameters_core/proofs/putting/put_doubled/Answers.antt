use Rattle.std.proofs.Common.{◌+◌, List, ℕ, length, subst, arith}
use Rattle.std.proofs.lemmas.List.{take_all}
use Rattle.printer_core.specs.Printing.{doubled}
use Rattle.parameters_core.specs.Putting.{IsPut, IsPutFault}
use Rattle.parameters_core.proofs.Puts.{exit, put_none, next_doubled, fault_doubled}
use Rattle.parameters_core.proofs.putting.put_doubled.Goals as goal

pub loop-i-init : goal.loop-i-init
loop-i-init c = put_none c.args.line.now.items c.requires

pub loop-i-preserved : goal.loop-i-preserved
loop-i-preserved c = next_doubled c.args.text.now c.loop-i.i c.loop-i-test.true c.args.line.now.items c.loop-i.line.items c.put_of_text.new.line.items c.loop-i.invariant c.in_ok-put_of_text.ensures.put

pub returns-in_err-put_of_text-clause-faulty : goal.returns-in_err-put_of_text-clause-faulty
returns-in_err-put_of_text-clause-faulty c =
    exit (IsPutFault (length c.args.line.now.items + length (doubled c.args.text.now))) _ _ c.from_residual.ensures.1
    (fault_doubled c.args.text.now c.loop-i.i c.loop-i-test.true c.args.line.now.items c.loop-i.line.items _ c.loop-i.invariant c.in_err-put_of_text.ensures.faulty)

pub returns-clause-put : goal.returns-clause-put
returns-clause-put c = subst (λ (x : List ℕ). IsPut (doubled x) c.args.line.now.items c.loop-i.line.items) (take_all c.loop-i.i c.args.text.now (omega arith)) c.loop-i.invariant

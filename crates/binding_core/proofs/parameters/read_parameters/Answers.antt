use Rattle.std.proofs.Common.{◌<◌, length, arith}
use Rattle.std.specs.Option.{option_copied}
use Rattle.binding_core.specs.declared.fault.BindFault.TheVariants as faults
use Rattle.binding_core.specs.Parameters.{IsFirstFault, parameters}
use Rattle.binding_core.proofs.Pushes.{exit}
use Rattle.binding_core.proofs.Steps.{fault_here, next_sent, one_more}
use Rattle.binding_core.proofs.parameters.read_parameters.Goals as goal

pub returns-in_err-value-clause-faulty : goal.returns-in_err-value-clause-faulty
returns-in_err-value-clause-faulty c =
    let some : 0 < length c.loop-place.left = omega (arith, c.loop-place.invariant.left_many, c.requires.same, c.loop-place-test.true) in
    let first = next_sent c.next.result c.unwrap_or-bytes.result c.loop-place.left c.next.new.self c.next.ensures.steps c.unwrap_or-bytes.ensures some in
    exit (IsFirstFault (parameters c.args.types.now c.args.codes.now c.args.sent.now)) c.from_residual.result _ c.from_residual.ensures.1
    (fault_here c.args.types.now c.args.codes.now c.args.sent.now c.loop-place.left c.next.new.self c.loop-place.place c.loop-place.values.items c.code_at-code.result (option_copied c.unwrap_or-bytes.result)
    c.loop-place.invariant c.loop-place-test.true c.code_at-code.ensures first _ c.in_err-value.ensures.faulty)

pub returns-in_err-push-clause-faulty : goal.returns-in_err-push-clause-faulty
returns-in_err-push-clause-faulty c =
    let some : 0 < length c.loop-place.left = omega (arith, c.loop-place.invariant.left_many, c.requires.same, c.loop-place-test.true) in
    let first = next_sent c.next.result c.unwrap_or-bytes.result c.loop-place.left c.next.new.self c.next.ensures.steps c.unwrap_or-bytes.ensures some in
    exit (IsFirstFault (parameters c.args.types.now c.args.codes.now c.args.sent.now)) c.from_residual-in_err-push.result faults.NoMemory c.from_residual-in_err-push.ensures.1
    (fault_here c.args.types.now c.args.codes.now c.args.sent.now c.loop-place.left c.next.new.self c.loop-place.place c.loop-place.values.items c.code_at-code.result (option_copied c.unwrap_or-bytes.result)
    c.loop-place.invariant c.loop-place-test.true c.code_at-code.ensures first faults.NoMemory tt)

pub loop-place-preserved : goal.loop-place-preserved
loop-place-preserved c =
    let some : 0 < length c.loop-place.left = omega (arith, c.loop-place.invariant.left_many, c.requires.same, c.loop-place-test.true) in
    let first = next_sent c.next.result c.unwrap_or-bytes.result c.loop-place.left c.next.new.self c.next.ensures.steps c.unwrap_or-bytes.ensures some in
    rw c.in_ok-push.ensures.items
    (one_more c.args.types.now c.args.codes.now c.args.sent.now c.loop-place.left c.next.new.self c.loop-place.place c.loop-place.values.items c.code_at-code.result (option_copied c.unwrap_or-bytes.result)
    c.loop-place.invariant c.loop-place-test.true c.code_at-code.ensures first c.in_ok-value.value c.in_ok-value.ensures.value)

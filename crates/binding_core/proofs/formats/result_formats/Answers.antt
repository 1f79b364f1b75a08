use Rattle.std.proofs.Common.{◌<◌, length, arith}
use Rattle.binding_core.proofs.Codes.{unknown_format}
use Rattle.binding_core.proofs.formats.result_formats.Goals as goal

pub returns-in_default-clause-unknown : goal.returns-in_default-clause-unknown
returns-in_default-clause-unknown c =
    let whole = c.loop-column.invariant.whole in
    let within : c.loop-column.column < length c.loop-column.formats = omega (arith, whole, c.loop-column-test.true) in
    unknown_format c.args.codes.now c.loop-column.formats c.loop-column.column c.code_at-code.result c.loop-column.invariant.each within
    c.code_at-code.ensures c.loop-column-test.true c.in_default.ensures

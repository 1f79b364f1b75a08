use Rattle.std.proofs.Common.{arith}
use Rattle.messages_core.specs.declared.frames.Cut.TheVariants as cuts
use Rattle.messages_core.proofs.Starting.{cut_said, start_whole, start_wrong}
use Rattle.messages_core.proofs.start.read_start.Goals as goal

pub returns-in-Part : goal.returns-in-Part
returns-in-Part c =
    cut_said 4 c.args.most c.args.bytes.now cuts.Part (λ i. omega (arith, c.type_inv.bytes i)) c.in-Part.ensures

pub returns-in-Faulty : goal.returns-in-Faulty
returns-in-Faulty c =
    cut_said 4 c.args.most c.args.bytes.now cuts.Faulty (λ i. omega (arith, c.type_inv.bytes i)) c.in-Faulty.ensures

pub returns-in-Ok : goal.returns-in-Ok
returns-in-Ok c =
    let whole = cut_said 4 c.args.most c.args.bytes.now (cuts.Whole c.in-Whole.body c.in-Whole.rest)
    (λ i. omega (arith, c.type_inv.bytes i)) c.in-Whole.ensures in
    start_whole c.args.most c.args.bytes.now c.in-Whole.body c.in-Whole.rest c.in-Ok.message whole
    (rw c.as_slice.ensures at c.in-Ok.ensures.ok)

pub returns-in-Err : goal.returns-in-Err
returns-in-Err c =
    let whole = cut_said 4 c.args.most c.args.bytes.now (cuts.Whole c.in-Whole.body c.in-Whole.rest)
    (λ i. omega (arith, c.type_inv.bytes i)) c.in-Whole.ensures in
    start_wrong c.args.most c.args.bytes.now c.in-Whole.body c.in-Whole.rest c.in-Err.fault whole
    (rw c.as_slice.ensures at c.in-Err.ensures.err)

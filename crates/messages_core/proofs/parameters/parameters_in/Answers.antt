use Rattle.std.proofs.Common.{sym, arith, rules}
use Rattle.messages_core.specs.Reading.{parameter_at}
use Rattle.messages_core.proofs.Stops.{past_next, parameter_shorter, parameters_found, parameters_stuck}
use Rattle.messages_core.proofs.parameters.parameters_in.Goals as goal

pub returns-in_err-behind-clause-none : goal.returns-in_err-behind-clause-none
returns-in_err-behind-clause-none c =
    rw c.from_residual.ensures
    (parameters_stuck c.loop-rest.left c.args.bytes.now c.loop-rest.rest.now c.loop-rest.invariant.0
    (sym c.in_err-behind.ensures) (search rules))

pub loop-rest-smaller : goal.loop-rest-smaller
loop-rest-smaller c =
    parameter_shorter c.loop-rest.rest.now _ c.in_ok-behind.behind.now (sym c.in_ok-behind.ensures)

pub loop-rest-preserved : goal.loop-rest-preserved
loop-rest-preserved c =
    let less = parameter_shorter c.loop-rest.rest.now _ c.in_ok-behind.behind.now (sym c.in_ok-behind.ensures) in (
      past_next parameter_at c.loop-rest.left c.args.bytes.now c.loop-rest.rest.now _ c.in_ok-behind.behind.now
          c.loop-rest.invariant.0 (sym c.in_ok-behind.ensures),
      omega (arith, less, c.loop-rest.invariant.1),
    )

pub returns-clause-found : goal.returns-clause-found
returns-clause-found c =
    parameters_found c.loop-rest.left c.args.bytes.now c.loop-rest.rest.now (λ i. omega (arith, c.type_inv.bytes i))
    c.loop-rest.invariant.0 (search rules)

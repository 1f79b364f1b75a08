use Rattle.std.proofs.Common.{arith}
use Rattle.messages_core.specs.Sasl.{initial_response, IsInitialResponse}
use Rattle.messages_core.specs.Bodies.{initial_response_in}
use Rattle.messages_core.proofs.BodyFields.{initial_response_in_body, read_some, read_none}
use Rattle.messages_core.proofs.sasl.InitialResponse.read.Goals as goal

pub returns-clause-some : goal.returns-clause-some
returns-clause-some c =
    read_some initial_response_in initial_response IsInitialResponse initial_response_in_body
    c.args.body.now c.initial_response_in.result (λ i. omega (arith, c.type_inv.body i)) c.initial_response_in.ensures

pub returns-clause-none : goal.returns-clause-none
returns-clause-none c =
    read_none initial_response_in initial_response IsInitialResponse initial_response_in_body
    c.args.body.now c.initial_response_in.result c.initial_response_in.ensures

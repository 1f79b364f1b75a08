use Rattle.std.proofs.Common.{ℕ, List, subst, arith}
use Rattle.std.specs.Option.{option_copied}
use Rattle.conversation_core.specs.Telling.{IsFaultPlace}
use Rattle.conversation_core.proofs.Naming.{first_is, first_within}
use Rattle.conversation_core.proofs.parsing.place_in.Goals as goal

pub fault_place-requires-clause-within : goal.fault_place-requires-clause-within
fault_place-requires-clause-within c =
    let within = first_within c.args.text.now c.first_statement.result.0.now (option_copied c.first_statement.result.1) c.first_statement.ensures in
    omega (arith, within)

pub returns : goal.returns
returns c = λ statement says.
    subst (λ (s : List ℕ). IsFaultPlace c.args.text.now 0 s c.args.offset c.fault_place.result)
    (first_is c.args.text.now c.first_statement.result.0.now (option_copied c.first_statement.result.1) c.first_statement.ensures statement says) c.fault_place.ensures

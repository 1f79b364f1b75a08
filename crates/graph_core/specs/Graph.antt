-- What callers see of the graph.
use Rattle.std.specs.Prelude.{List}
use Rattle.grants_core.specs.Content.{Rights}
use Rattle.grants_core.specs.declared.grant.Grant.{Grant}

-- what the authority contains, and the grants that a capture has still to give
pub record GraphState : Type 0 where
  pub content : Rights
  pub rest : List Grant

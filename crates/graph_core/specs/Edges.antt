-- What callers see of the edges.
use Rattle.std.specs.Prelude.{ℕ, List}
use Rattle.grants_core.specs.declared.grant.Grant.{Grant}

-- the edges in number order, the number of the next, and the edges that a capture has still to give
pub record EdgesState : Type 0 where
  pub edges : List Grant
  pub next : ℕ
  pub rest : List Grant

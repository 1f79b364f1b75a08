-- The first statement that makes grants.
use Rattle.std.specs.Prelude.{◌≡◌, ◌<◌, ◌≤◌, ℕ, true, List, ◌∷◌, map, length, take, drop}
use Rattle.base_core.specs.declared.privilege.Kind.{Kind}
use Rattle.grants_core.specs.declared.grant.Grant.{Grant}
use Rattle.dump_core.specs.Grouped.{Group, members}
use Rattle.dump_core.specs.Dump.{are_of_one_atom, are_of_one_statement, grants_together}

-- the first n grants are those of the first statement: of these kinds, each to the users of the
-- first so many; and those behind them are together by themselves
pub record IsFirstStatement (grants : List Grant) (users : ℕ) (kinds : List Kind) (n : ℕ)
    : Type 0 where
  pub atoms : Group (Group Grant)
  pub of_these : members atoms.first ≡ take users grants
  pub of_kinds : map (λ g. g.first.atom.kind) (members atoms) ≡ kinds
  pub one_atom : are_of_one_atom atoms.first ≡ true
  pub passes : are_of_one_statement atoms ≡ true
  pub behind : grants_together grants ≡ atoms ∷ grants_together (drop n grants)
  pub some : 0 < n
  pub within : n ≤ length grants

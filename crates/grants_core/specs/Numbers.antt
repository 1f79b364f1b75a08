-- The numbers of grants.
use Rattle.std.specs.Prelude.{ℕ, ◌<◌, List, All, AllPairs}
use Rattle.grants_core.specs.declared.grant.Grant.{Grant}

-- the numbers of the grants rise, so that no two are the same, and each is below n
pub record IsNumbered (n : ℕ) (grants : List Grant) : Type 0 where
  pub rising : AllPairs (λ earlier later. earlier.number < later.number) grants
  pub below : All (λ g. g.number < n) grants

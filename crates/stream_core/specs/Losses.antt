-- What a revocation leaves of the grants in force, and what it took by their standings alone.
use Rattle.std.specs.Prelude.{◌≡◌, ◌<◌, Bool, true, false, List, [], ◌∷◌, AllPairs, map}
use Rattle.base_core.specs.declared.name.Name.{Name}
use Rattle.reader_core.specs.declared.statement.Statement.{Statement}
use Rattle.reader_core.specs.declared.statement.Statement.TheVariants as statements
use Rattle.tables_core.specs.Contents.{Table}
use Rattle.grants_core.specs.declared.grant.Grant.{Grant}
use Rattle.links_core.specs.declared.standing.Standing.{Standing}
use Rattle.graph_core.specs.Indices.{standing_of}
use Rattle.stream_core.specs.declared.effect.Effect.{Effect}
use Rattle.stream_core.specs.Effects.{AreEffectsOf}

-- REVOKE, or REVOKE GRANT OPTION FOR
abbrev pub is_revoking : Statement → Bool
is_revoking (statements.CreateTable table columns) = false
is_revoking (statements.Insert table values) = false
is_revoking (statements.Select list table filter) = false
is_revoking (statements.Delete table filter) = false
is_revoking (statements.Update table sets filter) = false
is_revoking (statements.Grant privileges table users option) = false
is_revoking (statements.Revoke privileges table users) = true
is_revoking (statements.RevokeOption privileges table users) = true
is_revoking statements.Checkpoint = false
is_revoking statements.Checkpoints = false
is_revoking (statements.Export number only) = false

-- the second list is the first, but that some of its grants fell, and some have no option any more
pub data IsReducedTo : List Grant → List Grant → Type 0 where
  nothing : IsReducedTo [] []
  stays : {g : Grant} {before after : List Grant}
      → IsReducedTo before after
      → IsReducedTo (g ∷ before) (g ∷ after)
  unoptioned : {g : Grant} {before after : List Grant}
      → IsReducedTo before after
      → IsReducedTo (g ∷ before) (record g { option = false } ∷ after)
  falls : {g : Grant} {before after : List Grant}
      → IsReducedTo before after
      → IsReducedTo (g ∷ before) after

-- what grants lost of which only the standings are known, before and after: whichever these grants are
abbrev pub AreLossesOf : List Standing → List Standing → List Effect → Type 0
AreLossesOf before after all =
    (tables : List (Name × Table)) (given left : List Grant)
    → before ≡ map standing_of given
    → after ≡ map standing_of left
    → IsReducedTo given left
    → AllPairs (λ earlier later. earlier.number < later.number) given
    → AreEffectsOf (record { tables = tables; grants = given })
    (record { tables = tables; grants = left }) all

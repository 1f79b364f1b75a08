-- What a start finds is what it restores.
use Rattle.std.proofs.Common.{◌≡◌, ℕ, ◌-◌, None, Some, Option, IfSome, List, arith}
use Rattle.base_core.specs.declared.limits.Limits.{Limits}
use Rattle.folder_core.specs.FileNames.{piece}
use Rattle.folder_core.specs.Serving.{crashed}
use Rattle.folder_core.specs.Calls.{TextState, Moves, AreNamed, IsFoundAt}
use Rattle.recovery_core.specs.declared.recovered.Recovered.{Recovered}
use Rattle.recovery_core.specs.Recovered.{MakesCore, GoesOnFrom, Recovers}
use Rattle.folder_core.proofs.Moving.{moved_more}

module _ (chunk : ℕ) (limits : Limits) (r : Recovered) (points : List ℕ) where
  found_at : (s : TextState) → s.phase ≡ crashed → MakesCore chunk limits r s → IsFoundAt r.point r.resumes (r.at - r.point) s
  found_at s over i = record { over = over; base = i.base; behind = i.behind; restores = i.restores; count_is = (let at = i.at_is in omega arith) }

  pub is_restored : (o : Option TextState) → IfSome o (λ s. AreNamed piece s points) → IfSome o (λ s. AreNamed piece s points → MakesCore chunk limits r s) → IfSome o (MakesCore chunk limits r)
  is_restored None named restored = tt
  is_restored (Some s) named restored = restored named

  pub is_found : (o : Option TextState) → IfSome o (λ s. s.phase ≡ crashed) → IfSome o (MakesCore chunk limits r) → IfSome o (IsFoundAt r.point r.resumes (r.at - r.point))
  is_found None over restored = tt
  is_found (Some s) over restored = found_at s over restored

  pub recovers : (o p : Option TextState) → IfSome o (MakesCore chunk limits r) → Moves (GoesOnFrom r.point r.resumes r.at) o p → Moves (Recovers chunk limits r) o p
  recovers = moved_more (GoesOnFrom r.point r.resumes r.at) (Recovers chunk limits r) (MakesCore chunk limits r) (λ s t i g. (i, g))

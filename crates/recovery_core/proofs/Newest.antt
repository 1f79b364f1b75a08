-- The newest dump of a folder.
use Rattle.std.proofs.Common.{◌≡◌, ℕ, ◌≤◌, None, Some, Option, Result, Ok, Err, IfOk, IfSome, List, [], All, Contains, refl, subst, arith}
use Rattle.std.proofs.lemmas.List.Elements.{All-contains}
use Rattle.base_core.specs.declared.limits.Limits.{Limits}
use Rattle.system_core.specs.World.{World, opening}
use Rattle.folder_core.specs.FileNames.{FileName, dump}
use Rattle.folder_core.specs.Restoring.{HasNone, IsNewest}
use Rattle.folder_core.specs.Calls.{TextState, AreNamed}
use Rattle.recovery_core.specs.declared.fault.RecoveryFault.{RecoveryFault}
use Rattle.recovery_core.specs.declared.recovering.Read.{Read}
use Rattle.recovery_core.specs.Reading.{IsEmptyRead, ReadsDump, ReadsBase, no_dump, a_dump}

none_of : (o : Option ℕ) → ((number : ℕ) × (o ≡ Some number) → ⊥) → o ≡ None
none_of None not = refl
none_of (Some n) not = absurd (not (n, refl))

-- what is not listed is not there
pub unlisted : (name_at : ℕ → FileName) (s : TextState) (points : List ℕ) → AreNamed name_at s points → (point : ℕ) → (Contains points point → ⊥) → HasNone s.disk (name_at point)
unlisted name_at s points named point not = none_of (s.disk.now (name_at point)) (λ is. not ((named point).0 is))

nothing_in : (points : List ℕ) → points ≡ [] → (point : ℕ) → Contains points point → ⊥
nothing_in points none point has = let (k, within, at) = subst (λ (ps : List ℕ). Contains ps point) none has in omega arith

module _ (chunk : ℕ) (limits : Limits) where
  pub no_dumps : (o : Option TextState) (points : List ℕ) (w : World) (read : Read) → IfSome o (λ s. AreNamed dump s points) → points ≡ [] → w ≡ opening chunk limits → IsEmptyRead w read → IfSome o (ReadsBase chunk limits read)
  no_dumps None points w read named none is empty = tt
  no_dumps (Some s) points w read named none is empty =
      no_dump (unlisted dump s points named 0 (nothing_in points none 0)) (λ later above. unlisted dump s points named later (nothing_in points none later)) (subst (λ (x : World). IsEmptyRead x read) is empty)

  newest : (s : TextState) (points : List ℕ) (point : ℕ) → AreNamed dump s points → All (λ p. p ≤ point) points → IsNewest s.disk point
  newest s points point named bound later above = unlisted dump s points named later (λ has. let le : later ≤ point = All-contains (λ (p : ℕ). p ≤ point) points later bound has in omega arith)

  known : (o : Option TextState) (points : List ℕ) (point : ℕ) (w : World) (read : Read) → IfSome o (λ s. AreNamed dump s points) → All (λ p. p ≤ point) points → w ≡ opening chunk limits → IfSome o (ReadsDump w point read) → IfSome o (ReadsBase chunk limits read)
  known None points point w read named bound is reads = tt
  known (Some s) points point w read named bound is reads = a_dump point (newest s points point named bound) (subst (λ (x : World). ReadsDump x point read s) is reads)

  pub the_newest : (o : Option TextState) (points : List ℕ) (point : ℕ) (w : World) → IfSome o (λ s. AreNamed dump s points) → All (λ p. p ≤ point) points → w ≡ opening chunk limits
      → (result : Result Read RecoveryFault) → IfOk result (λ read. IfSome o (ReadsDump w point read)) → IfOk result (λ read. IfSome o (ReadsBase chunk limits read))
  the_newest o points point w named bound is (Ok read) reads = known o points point w read named bound is reads
  the_newest o points point w named bound is (Err fault) reads = tt

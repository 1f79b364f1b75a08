-- A pass of a desk, through which nothing but tending was done since some time.
use Rattle.std.proofs.Common.{◌≡◌, Some, ◌∙◌}
use Rattle.desk_core.specs.Guarded.{DeskLock, DeskPass}
use Rattle.session_core.specs.Tending.{Tends}
use Rattle.session_core.proofs.Tended.{Tends-trans, tends_watches}

abbrev pub IsTended : {K : Type 0} → DeskLock K → DeskPass K → DeskPass K → Type 0
IsTended desk old pass = (pass.lock ≡ Some desk) × Tends desk old pass

pub tended_on : {K : Type 0} (desk : DeskLock K) (old between new : DeskPass K) → IsTended desk old between → Tends desk between new → IsTended desk old new
tended_on desk old between new was more = ((tends_watches desk between new more).same.0 ∙ was.0, Tends-trans desk old between new was.1 more)

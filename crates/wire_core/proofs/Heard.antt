-- What is heard before anybody is welcome.
use Rattle.std.proofs.Common.{◌≡◌, ℕ, List, false, Option, Some, None, refl}
use Rattle.std.specs.Prelude.{MatchOption}
use Rattle.desk_core.specs.Guarded.{DeskLock, DeskPass}
use Rattle.session_core.specs.declared.admission.Admission.{Admission}
use Rattle.wire_core.specs.State.{ClientAndQueue}
use Rattle.wire_core.specs.Running.{IsEntered, IsHeard, IsUnheard, entered}

-- it is heard through any pass, which knows no more then
pub heard_before : {K : Type 0} (desk : DeskLock K) (admission : Admission) (old : ClientAndQueue) (came : List ℕ) (new : ClientAndQueue) (pass : DeskPass K)
    → old.state.talk.over ≡ false → (result : Option ℕ)
    → MatchOption result (IsUnheard old came new) (λ rest. IsEntered admission old came rest new)
    → MatchOption result (IsUnheard old came new × pass ≡ pass) (λ rest. IsHeard desk admission old pass came rest new pass)
heard_before desk admission old came new pass opened None h = (h, refl)
heard_before desk admission old came new pass opened (Some rest) h =
    record { first = h.first; behind = h.behind; cut = h.cut; rest_is = h.rest_is; takes = entered opened h.enters }

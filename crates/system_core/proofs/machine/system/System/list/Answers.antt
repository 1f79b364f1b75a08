use Rattle.std.proofs.Common.{◌≡◌, ℕ, List, ◌++◌, length, map, Option, option_map, refl, ap, ◌∙◌}
use Rattle.base_core.specs.declared.value.Moment.{Moment}
use Rattle.catalogue_core.specs.Kept.{number_and_point}
use Rattle.catalogue_core.proofs.RingLemmas.{map-map}
use Rattle.system_core.specs.declared.machine.event.Checkpoint.{Checkpoint}
use Rattle.system_core.specs.declared.machine.event.Checkpoint.TheVariants as checkpoints
use Rattle.system_core.specs.Step.{active_listed}
use Rattle.system_core.specs.World.{ActiveCheckpoint}
use Rattle.capture_core.specs.Capturing.{in_progress}
use Rattle.system_core.specs.Standing.{LedgerState, database_of, as_active}
use Rattle.system_core.proofs.Captured.{as_active-in_progress}
use Rattle.system_core.proofs.machine.system.System.list.Goals as goal

pub returns-in-Ok : goal.returns-in-Ok
returns-in-Ok c =
    let ledger : LedgerState = c.self.inside.ledger in
    let now : Moment = record { 0 = length c.self.inside.ledger.journal } in
    let at : c.moment-at.result ≡ now = ap (λ (n : ℕ). record { 0 = n }) c.moment-at.ensures.moment in
    rw (← c.self.view_is) (λ pass user. (
      refl,
      c.in-Ok.ensures
          ∙ (ap (λ (a : Option ActiveCheckpoint). map (λ i. checkpoints.Kept i.number i.point) c.self.inside.catalogue ++ active_listed a) (as_active-in_progress c.self.inside.capture.active (database_of ledger) ledger.grants_due)
          ∙ ap (λ (k : List Checkpoint). k ++ active_listed (option_map as_active (in_progress c.self.inside.capture.active (database_of ledger) ledger.grants_due))) (map-map number_and_point (λ e. checkpoints.Kept e.0 e.1) c.self.inside.catalogue)),
      at,
      refl,
    ))

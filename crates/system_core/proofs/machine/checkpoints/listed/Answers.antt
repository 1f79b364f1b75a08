use Rattle.std.proofs.Common.{◌≡◌, ℕ, List, ◌++◌, Option, Some, None, map, option_map, refl, sym, ap, ◌∙◌}
use Rattle.base_core.specs.declared.value.Moment.{Moment}
use Rattle.capture_core.specs.Capturing.{ActiveCapture as Capture}
use Rattle.catalogue_core.specs.Kept.{number_and_point}
use Rattle.catalogue_core.proofs.RingLemmas.{map-map}
use Rattle.system_core.specs.declared.machine.event.Checkpoint.{Checkpoint}
use Rattle.system_core.specs.declared.machine.event.Checkpoint.TheVariants as checkpoints
use Rattle.system_core.specs.World.{ActiveCheckpoint}
use Rattle.system_core.specs.Step.{active_listed}
use Rattle.system_core.proofs.machine.checkpoints.listed.Goals as goal

told : Option (ℕ × Moment × ℕ) → Option ActiveCheckpoint
told o = option_map (λ a. record { number = a.0; point = a.1; left = a.2 }) o

twice : (o : Option Capture) → told (option_map (λ a. (a.number, a.point, a.left)) o) ≡ option_map (λ a. record { number = a.number; point = a.point; left = a.left }) o
unfolding told
twice None = refl
twice (Some a) = refl

pub returns : goal.returns
unfolding told
returns c =
    c.from_vec.ensures
    ∙ (c.in_ok-push_active.ensures
    ∙ (ap (λ (es : List Checkpoint). es ++ active_listed (told c.active.result))
    (c.in_ok-entries.ensures ∙ (ap (λ (ks : List (ℕ × Moment)). map (λ k. checkpoints.Kept k.0 k.1) ks) (c.deref.ensures.value ∙ c.in_ok-kept.ensures) ∙ sym (map-map number_and_point (λ k. checkpoints.Kept k.0 k.1) c.args.catalogue.now)))
    ∙ ap (λ (o : Option ActiveCheckpoint). map (λ image. checkpoints.Kept image.number image.point) c.args.catalogue.now ++ active_listed o) (ap told c.active.ensures ∙ twice c.args.capture.now.active)))

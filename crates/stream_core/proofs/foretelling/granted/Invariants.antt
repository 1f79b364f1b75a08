use Rattle.std.proofs.Common.{◌≡◌, map, take}
use Rattle.stream_core.specs.declared.effect.Effect.TheVariants as effects
use Rattle.stream_core.proofs.foretelling.granted.Given as goal

abbrev pub invariant-loop-grant : goal.invariant-loop-grant
invariant-loop-grant l = l.all.items ≡ map effects.GrantMade (take l.grant-index l.grants)

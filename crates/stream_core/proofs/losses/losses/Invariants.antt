use Rattle.std.proofs.Common.{◌≡◌, ◌++◌, map, drop}
use Rattle.stream_core.proofs.GrantLosses.{effect_of, losses_of}
use Rattle.stream_core.proofs.losses.losses.Given as goal

abbrev pub invariant-loop-standing : goal.invariant-loop-standing
invariant-loop-standing l =
    l.all.items ++ map effect_of (losses_of (drop l.standing-index l.before) l.rest) ≡ map effect_of (losses_of l.before l.fn.after)

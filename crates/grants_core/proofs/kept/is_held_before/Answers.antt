use Rattle.std.proofs.Common.{false, ap, ltb}
use Rattle.std.specs.Option.{option_map_or}
use Rattle.grants_core.specs.Kept.{held_before}
use Rattle.grants_core.proofs.kept.is_held_before.Goals as goal

pub returns-in-Some : goal.returns-in-Some
unfolding held_before
returns-in-Some c = ap (λ since. option_map_or (λ first. ltb first.0 c.args.at.0) since false) c.in-Some.ensures.value

pub returns-in-None : goal.returns-in-None
unfolding held_before
returns-in-None c = ap (λ since. option_map_or (λ first. ltb first.0 c.args.at.0) since false) c.in-None.ensures.value

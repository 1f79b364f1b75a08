use Rattle.std.proofs.Common.{arith}
use Rattle.std.proofs.lemmas.Grind.{common_steps}
use Rattle.std.proofs.lemmas.List.{get_or_default}
use Rattle.std.proofs.lemmas.List.Edits.{map_over_more}
use Rattle.grants_core.specs.Content.{names, option_off}
use Rattle.grants_core.proofs.grants.take_named_options.Goals as goal

pub loop-one-preserved : goal.loop-one-preserved
loop-one-preserved c = rw c.is_named.ensures (map_over_more (option_off (names c.args.by.now c.args.atoms.now c.args.whom.now)) c.args.grants.now c.loop-one.grants c.loop-one.one-index _ (omega arith) c.loop-one.invariant (get_or_default c.loop-one.grants c.loop-one.one-index _ _ (omega arith)))

pub returns : goal.returns
returns c = grind (arith, common_steps)

use Rattle.std.proofs.Common.{◌≡◌, ◌++◌, map, filter, take}
use Rattle.explain_core.specs.Alternatives.{alternative_of, is_alternative}
use Rattle.explain_core.proofs.alternative.push_alternatives.Given as goal

abbrev pub invariant-loop-life : goal.invariant-loop-life
invariant-loop-life l =
    l.found.items
    ≡ l.initial.found.items ++ map (alternative_of l.at l.unkept.grant) (filter (is_alternative l.at l.support.grant l.unkept.grant) (take l.life-index l.lives))

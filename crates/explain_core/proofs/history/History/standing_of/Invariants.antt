use Rattle.std.proofs.Common.{◌≡◌, ◌&&◌, filter, map, take, is_none}
use Rattle.explain_core.specs.Life.{left}
use Rattle.explain_core.specs.Losses.{is_of_atom}
use Rattle.explain_core.proofs.history.History.standing_of.Given as goal

abbrev pub invariant-loop-life : goal.invariant-loop-life
invariant-loop-life l =
    l.grants.items ≡ map left (filter (λ life. is_none life.fell && is_of_atom l.atom life.grant) (take l.life-index l.life-items))

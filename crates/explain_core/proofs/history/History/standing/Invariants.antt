use Rattle.std.proofs.Common.{◌≡◌, ◌&&◌, false, take, is_none}
use Rattle.std.specs.List.{list_any}
use Rattle.grants_core.specs.Content.{gives}
use Rattle.explain_core.proofs.history.History.standing.Given as goal

abbrev pub invariant-loop-life : goal.invariant-loop-life
invariant-loop-life l =
    list_any (λ life. is_none life.fell && gives l.user l.atom life.grant) (take l.life-index l.life-items) ≡ false

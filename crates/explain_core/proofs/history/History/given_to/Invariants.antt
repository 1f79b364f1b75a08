use Rattle.std.proofs.Common.{◌≡◌, filter, take}
use Rattle.grants_core.specs.Content.{gives}
use Rattle.explain_core.proofs.history.History.given_to.Given as goal

abbrev pub invariant-loop-life : goal.invariant-loop-life
invariant-loop-life l = l.given.items ≡ filter (λ life. gives l.user l.atom life.grant) (take l.life-index l.life-items)

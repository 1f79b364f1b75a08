use Rattle.std.proofs.Common.{◌≡◌, drop}
use Rattle.monitor_core.specs.Verdict.{each, gave_option}
use Rattle.monitor_core.proofs.judging.Judge.gave_option_to_each.Given as goal

-- all before passed: what is found of the rest is what is found of all
abbrev pub invariant-loop-to : goal.invariant-loop-to
invariant-loop-to g l = each (drop l.to-index l.users) (gave_option l.self l.by l.atom) ≡ each l.users (gave_option l.self l.by l.atom)

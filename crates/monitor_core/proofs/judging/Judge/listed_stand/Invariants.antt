use Rattle.std.proofs.Common.{◌≡◌, drop}
use Rattle.monitor_core.specs.Verdict.{listed_columns_stand}
use Rattle.monitor_core.proofs.judging.Judge.listed_stand.Given as goal

-- all before passed: what is found of the rest is what is found of all
abbrev pub invariant-loop-privilege : goal.invariant-loop-privilege
invariant-loop-privilege g l = listed_columns_stand l.self l.table (drop l.privilege-index l.privileges) ≡ listed_columns_stand l.self l.table l.privileges

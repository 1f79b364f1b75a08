use Rattle.std.proofs.Common.{◌≡◌, ◌+◌, ◌++◌, drop, length}
use Rattle.grants_core.specs.Content.{to_each}
use Rattle.grants_core.proofs.singles.push_each.Given as goal

-- the grants so far and those to come
abbrev pub invariant-loop-user : goal.invariant-loop-user
invariant-loop-user l = l.grants.items ++ to_each (l.first + length l.grants.items) l.at l.by l.atom (drop l.user-index l.whom) l.option ≡ l.fn.grants.items ++ to_each (l.first + length l.fn.grants.items) l.at l.by l.atom l.whom l.option

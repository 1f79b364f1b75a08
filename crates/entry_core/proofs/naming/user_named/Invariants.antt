use Rattle.std.proofs.Common.{◌≡◌}
use Rattle.entry_core.specs.Naming.{user_named}
use Rattle.entry_core.proofs.naming.user_named.Given as goal

-- what is left names whom all of them name
abbrev pub invariant-loop-name : goal.invariant-loop-name
invariant-loop-name l =
    (goal.iterator-loop-name).can_next l.name-iterator
    × (goal.iterator-loop-name).is_finite l.name-iterator
    × (user_named l.name-iterator ≡ user_named l.parameters)

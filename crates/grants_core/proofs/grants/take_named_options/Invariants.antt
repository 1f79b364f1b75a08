use Rattle.std.proofs.Common.{◌≡◌, ◌++◌, drop, take}
use Rattle.grants_core.specs.Content.{options_off}
use Rattle.grants_core.proofs.grants.take_named_options.Given as goal

-- what is named has lost its option so far, and the rest is as it was
abbrev pub invariant-loop-one : goal.invariant-loop-one
invariant-loop-one l = l.grants ≡ options_off l.by l.atoms l.whom (take l.one-index l.fn.grants) ++ drop l.one-index l.fn.grants

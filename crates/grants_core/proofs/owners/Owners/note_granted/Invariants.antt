use Rattle.std.proofs.Common.{◌≡◌, take}
use Rattle.grants_core.specs.Owners.{with_granted}
use Rattle.grants_core.proofs.owners.Owners.note_granted.Given as goal

-- the tables of the atoms so far are noted
abbrev pub invariant-loop-atom : goal.invariant-loop-atom
invariant-loop-atom l = l.self ≡ with_granted (take l.atom-index l.atoms) l.fn.self

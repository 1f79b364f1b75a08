use Rattle.std.proofs.Common.{◌≡◌, take}
use Rattle.std.specs.List.{list_any}
use Rattle.base_core.specs.declared.privilege.Atom.{Atom}
use Rattle.grants_core.specs.Content.{gives}
use Rattle.grants_core.specs.Keys.{same_key}
use Rattle.indexmap.specs.IndexSet.{contains_by}
use Rattle.capture_core.proofs.granted.given_privileges.Given as goal

-- the privileges that the grants so far give
abbrev pub invariant-loop-at : goal.invariant-loop-at
invariant-loop-at l =
    (atom : Atom) → contains_by (same_key (record { 0 = atom })) l.given ≡ list_any (gives l.user atom) (take l.at l.grants)

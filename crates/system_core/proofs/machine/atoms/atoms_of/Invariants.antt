use Rattle.std.proofs.Common.{◌≡◌, ◌≤◌, ◌*◌, ◌++◌, length, drop}
use Rattle.monitor_core.specs.Atoms.{atoms_of}
use Rattle.system_core.proofs.machine.atoms.atoms_of.Given as goal

-- the atoms so far and those to come
abbrev pub invariant-loop-privilege : goal.invariant-loop-privilege
invariant-loop-privilege l = record {
  atoms : l.atoms.items ++ atoms_of l.table l.columns (drop l.privilege-index l.privileges) ≡ atoms_of l.table l.columns l.privileges;
  few : length l.atoms.items ≤ 32 * l.privilege-index;
}

use Rattle.dump_core.specs.Dump.{are_of_one_atom}
use Rattle.dump_core.proofs.Grouping.{Grows}
use Rattle.dump_core.proofs.neighbours.atom_ahead.Given as goal

abbrev pub invariant-loop-count : goal.invariant-loop-count
invariant-loop-count l = Grows are_of_one_atom l.grants l.count

use Rattle.dump_core.proofs.Together.{together-few}
use Rattle.dump_core.proofs.Dumped.{length-dump, dump-lawful, dump-alike}
use Rattle.dump_core.proofs.Formed.{dump-formed}
use Rattle.dump_core.proofs.OneDump.{one-dump, dump-again}
use Rattle.system_core.specs.Journal.{rights_at}
use Rattle.dump_core.proofs.laws.dump_leaves_the_same.Goals as goal

pub returns : goal.returns
returns c = record {
  length = length-dump;
  few = λ journal. together-few (rights_at journal).in_force;
  lawful = dump-lawful;
  formed = λ limits journal may. dump-formed limits journal may.lawful may.well_formed;
  alike = dump-alike;
  one = one-dump;
  again = dump-again;
}

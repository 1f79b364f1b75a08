use Rattle.dump_core.proofs.Steps.{stay-alike}
use Rattle.dump_core.proofs.Dumped.{dump-serves}
use Rattle.dump_core.proofs.laws.alike_stay_alike.Goals as goal

pub returns : goal.returns
returns c = record {
  any = stay-alike;
  dump = λ limits journal more h lawful room. dump-serves limits journal h more lawful room;
}

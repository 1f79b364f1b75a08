use Rattle.std.proofs.Common.{refl}
use Rattle.sysr.proofs.serving_in_folder.kept_in_folder.Goals as goal

pub returns-in_ok-left-in-Ok : goal.returns-in_ok-left-in-Ok
returns-in_ok-left-in-Ok g c = record {
  count = c.in_ok-left-in-Ok.ensures.count;
  served = (c.args.begun.beginning.sink, refl, rw c.in-Ok.ensures at c.in_ok-left-in-Ok.ensures.leaves, rw c.in-Ok.ensures at c.in_ok-left-in-Ok.ensures.kept);
}

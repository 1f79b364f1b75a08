use Rattle.std.proofs.Common.{refl}
use Rattle.desk_core.proofs.object.Core.idle_answer.Goals as goal

pub returns-clause-looks : goal.returns-clause-looks
returns-clause-looks g c =
    record {
      same = refl;
      has_kept = c.seen.ensures.kept;
      count_is = c.seen.ensures.count;
      keeper_is = c.seen.ensures.keeper;
    }

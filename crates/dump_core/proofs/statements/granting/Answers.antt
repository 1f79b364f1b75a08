use Rattle.std.proofs.Common.{length, ap, arith}
use Rattle.dump_core.proofs.Listing.{listed-short}
use Rattle.dump_core.proofs.statements.granting.Goals as goal

pub from_vec-requires-clause-some : goal.from_vec-requires-clause-some
from_vec-requires-clause-some c =
    let short = listed-short c.args.kinds.now c.requires.some c.requires.listed in
    omega (arith, short.0, ap length c.in_ok-privileges.ensures)

pub from_vec-requires-clause-few : goal.from_vec-requires-clause-few
from_vec-requires-clause-few c =
    let short = listed-short c.args.kinds.now c.requires.some c.requires.listed in
    omega (arith, short.1, ap length c.in_ok-privileges.ensures)

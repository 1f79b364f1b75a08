use Rattle.std.proofs.Common.{rules}
use Rattle.grants_core.proofs.replay.ReplayAuthority.has_optioned.Goals as goal

pub returns : goal.returns
returns c = search rules

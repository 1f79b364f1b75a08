use Rattle.std.proofs.Common.{rules}
use Rattle.login_core.proofs.hmac.hmac_by_short.Goals as goal

pub returns : goal.returns
returns c = search rules

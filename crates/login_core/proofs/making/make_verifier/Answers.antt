use Rattle.std.proofs.Common.{rules}
use Rattle.login_core.proofs.making.make_verifier.Goals as goal

pub returns-clause-server_key : goal.returns-clause-server_key
returns-clause-server_key c = search rules

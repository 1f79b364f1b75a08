use Rattle.sending_core.proofs.Owings.{some_owed}
use Rattle.sending_core.proofs.laws.something_is_owed.Goals as goal

pub returns : goal.returns
returns c = some_owed

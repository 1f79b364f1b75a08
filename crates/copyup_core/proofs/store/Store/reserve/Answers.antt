use Rattle.std.proofs.Common.{rules}
use Rattle.copyup_core.proofs.store.Store.reserve.Goals as goal

pub returns-clause-ok : goal.returns-clause-ok
returns-clause-ok g c = search rules

use Rattle.system_core.proofs.Unworn.{never-worn}
use Rattle.system_core.proofs.laws.worn_is_never_answered.Goals as goal

pub returns : goal.returns
returns c = never-worn

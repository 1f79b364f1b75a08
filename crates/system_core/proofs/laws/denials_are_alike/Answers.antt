use Rattle.system_core.proofs.Describing.{denial-responds}
use Rattle.system_core.proofs.laws.denials_are_alike.Goals as goal

pub returns : goal.returns
returns c = λ old new pass user asked lack reply is denial told. denial-responds old new pass user asked lack reply is denial told.0 told.1

use Rattle.std.proofs.Common.{rules}
use Rattle.load_core.proofs.loader.LoaderLineServer.answer.Goals as goal

pub returns-else-is_none : goal.returns-else-is_none
returns-else-is_none g c = search rules

use Rattle.std.proofs.Common.{rules}
use Rattle.utility_core.proofs.reading.is_version_question.Goals as goal

pub returns-else-spells : goal.returns-else-spells
returns-else-spells c = search rules

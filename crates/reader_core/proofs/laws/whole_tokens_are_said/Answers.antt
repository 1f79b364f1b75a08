use Rattle.reader_core.proofs.EachStatement.{whole_said}
use Rattle.reader_core.proofs.laws.whole_tokens_are_said.Goals as goal

pub returns : goal.returns
returns c = whole_said

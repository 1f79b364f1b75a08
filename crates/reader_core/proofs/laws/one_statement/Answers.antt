use Rattle.reader_core.proofs.Exactness.{spelled_once}
use Rattle.reader_core.proofs.laws.one_statement.Goals as goal

pub returns : goal.returns
returns c = spelled_once

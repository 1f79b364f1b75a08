use Rattle.messages_core.proofs.Streams.{one_list_of_values}
use Rattle.messages_core.proofs.laws.one_row.Goals as goal

pub returns : goal.returns
returns c = λ ones others h k e. one_list_of_values ones others h k e

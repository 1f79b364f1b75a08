use Rattle.messages_core.proofs.StartDecoding.{one_start}
use Rattle.messages_core.proofs.laws.one_start_reading.Goals as goal

pub returns : goal.returns
returns c = λ most bytes one other small h k. one_start most small bytes one other h k

use Rattle.messages_core.proofs.Decoding.{one_reading}
use Rattle.messages_core.proofs.laws.one_message_reading.Goals as goal

pub returns : goal.returns
returns c = λ most bytes one other small are h k. one_reading most small bytes one other are h k

use Rattle.messages_core.proofs.Decoding as decoding
use Rattle.messages_core.proofs.laws.one_list_of_messages.Goals as goal

pub returns : goal.returns
returns c = λ most ones others small h k e. decoding.one_list_of_messages most small ones others h k e

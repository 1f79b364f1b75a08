use Rattle.messages_core.proofs.ServerDecoding as decoding
use Rattle.messages_core.proofs.laws.one_list_of_server_messages.Goals as goal

pub returns : goal.returns
returns c = λ ones others h k e. decoding.one_list_of_server_messages ones others h k e

use Rattle.messages_core.proofs.Streams as streams
use Rattle.messages_core.proofs.laws.one_list_of_frames.Goals as goal

pub returns : goal.returns
returns c = λ ones others h k e. streams.one_list_of_frames ones others h k e

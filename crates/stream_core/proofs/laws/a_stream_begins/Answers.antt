use Rattle.stream_core.proofs.StreamLaws.{stream-begins}
use Rattle.stream_core.proofs.laws.a_stream_begins.Goals as goal

pub returns : goal.returns
returns c = stream-begins

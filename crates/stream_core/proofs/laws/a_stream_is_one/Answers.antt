use Rattle.stream_core.proofs.OneList.{stream-is-one}
use Rattle.stream_core.proofs.laws.a_stream_is_one.Goals as goal

pub returns : goal.returns
returns c = stream-is-one

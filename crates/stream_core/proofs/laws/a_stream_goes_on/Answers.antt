use Rattle.stream_core.proofs.StreamLaws.{stream-leads}
use Rattle.stream_core.proofs.laws.a_stream_goes_on.Goals as goal

pub returns : goal.returns
returns c = stream-leads

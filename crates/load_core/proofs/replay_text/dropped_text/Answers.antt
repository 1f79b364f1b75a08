use Rattle.std.proofs.Common.{rules}
use Rattle.load_core.proofs.replay_text.dropped_text.Goals as goal

pub returns : goal.returns
returns c = search rules

use Rattle.std.proofs.Common.{rules}
use Rattle.graph_core.proofs.graph.Graph.begin.Goals as goal

pub returns : goal.returns
returns c = search rules

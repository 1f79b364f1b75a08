use Rattle.std.proofs.Common.{rules}
use Rattle.graph_core.proofs.graph.Graph.capture_step.Goals as goal

pub returns-clause-count : goal.returns-clause-count
returns-clause-count c = search rules

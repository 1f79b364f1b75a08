use Rattle.std.proofs.Common.{rules}
use Rattle.graph_core.proofs.edges.Edges.revoke.Goals as goal

pub returns-clause-valid : goal.returns-clause-valid
returns-clause-valid c = search rules

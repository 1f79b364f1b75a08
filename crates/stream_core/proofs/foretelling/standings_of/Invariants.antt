use Rattle.std.proofs.Common.{◌≡◌, map, take}
use Rattle.graph_core.specs.Indices.{standing_of}
use Rattle.stream_core.proofs.foretelling.standings_of.Given as goal

abbrev pub invariant-loop-grant : goal.invariant-loop-grant
invariant-loop-grant l = l.all.items ≡ map standing_of (take l.grant-index l.grants)

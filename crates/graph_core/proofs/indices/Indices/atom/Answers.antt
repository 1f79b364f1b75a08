use Rattle.grants_core.specs.Keys.{same_key}
use Rattle.grants_core.specs.KeyLaws.{same_key-equivalence}
use Rattle.graph_core.proofs.IndexLemmas.{index_found}
use Rattle.graph_core.proofs.indices.Indices.atom.Goals as goal

pub returns : goal.returns
returns c =
    rw (← c.self.view_is) (index_found same_key same_key-equivalence c.self.inside.atoms.keys (record { 0 = c.args.atom.now }) _ c.get_index_of.result c.self.invariant.1 c.get_index_of.ensures.index)

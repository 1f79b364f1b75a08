use Rattle.std.proofs.Common.{[]}
use Rattle.std.specs.Str.{bytes_eq}
use Rattle.std.proofs.lemmas.Cmp.{nat_list_eq_equiv}
use Rattle.base_core.specs.declared.privilege.Kind.TheVariants as kinds
use Rattle.grants_core.specs.Keys.{same_key}
use Rattle.grants_core.specs.KeyLaws.{same_key-equivalence}
use Rattle.graph_core.proofs.IndexLemmas.{index_found, place_own}
use Rattle.graph_core.proofs.indices.Indices.user.Goals as goal

pub returns-clause-index : goal.returns-clause-index
returns-clause-index c =
    rw (← c.self.view_is) (index_found bytes_eq nat_list_eq_equiv c.self.inside.users.keys c.args.user.now.0 [] c.get_index_of.result c.self.invariant.0 c.get_index_of.ensures.index)

pub returns-clause-apart : goal.returns-clause-apart
returns-clause-apart c =
    rw (← c.self.view_is) (record {
      users = λ j there i here. place_own bytes_eq nat_list_eq_equiv c.self.inside.users.keys [] i j c.self.invariant.0 here there;
      atoms = λ j there i here. place_own same_key same_key-equivalence c.self.inside.atoms.keys (record { 0 = record { table = []; kind = kinds.Insert } }) i j c.self.invariant.1 here there;
    })

use Rattle.std.proofs.Common.{◌∙◌, [], ap, sym}
use Rattle.std.proofs.lemmas.List.{append-nil}
use Rattle.base_core.specs.declared.privilege.Kind.TheVariants as kinds
use Rattle.grants_core.specs.declared.key.Key.{Key}
use Rattle.grants_core.specs.Keys.{same_key}
use Rattle.grants_core.specs.KeyLaws.{same_key-true}
use Rattle.graph_core.proofs.IndexLemmas.{inserted_behind, some_at}
use Rattle.graph_core.proofs.indices.Indices.add_atom.Goals as goal

pub returns-in_err-index-clause-extends : goal.returns-in_err-index-clause-extends
returns-in_err-index-clause-extends c =
    rw (← c.self.view_is) (record { users = []; atoms = []; users_are = sym (append-nil c.self.inside.users.keys); atoms_are = c.in_err-index.ensures.err ∙ sym (append-nil c.self.inside.atoms.keys) })

pub returns-clause-extends : goal.returns-clause-extends
returns-clause-extends c =
    let atoms = c.self.inside.atoms.keys in
    let behind = inserted_behind same_key atoms (record { 0 = c.args.atom.now }) in
    rw (← c.self.view_is) (record { users = []; atoms = behind.0; users_are = sym (append-nil c.self.inside.users.keys); atoms_are = c.in_ok-index.ensures.keys ∙ behind.1 })

pub returns-clause-atom : goal.returns-clause-atom
returns-clause-atom c =
    let s = c.in_ok-index.ensures.stored in
    ap (λ (k : Key). k.0) (some_at c.insert_full.new.self.keys c.in_ok-index.index s.0 (record { 0 = record { table = []; kind = kinds.Insert } }) s.1 ∙ sym (same_key-true (record { 0 = c.args.atom.now }) s.0 s.2))

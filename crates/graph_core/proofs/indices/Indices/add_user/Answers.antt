use Rattle.std.proofs.Common.{◌∙◌, [], ap, sym}
use Rattle.std.proofs.lemmas.List.{append-nil}
use Rattle.std.specs.Str.{bytes_eq}
use Rattle.base_core.specs.declared.name.Name.{Name}
use Rattle.base_core.proofs.SameLemmas.{same_name-true}
use Rattle.graph_core.proofs.IndexLemmas.{inserted_behind, some_at}
use Rattle.graph_core.proofs.indices.Indices.add_user.Goals as goal

pub returns-in_err-index-clause-extends : goal.returns-in_err-index-clause-extends
returns-in_err-index-clause-extends c =
    rw (← c.self.view_is) (record { users = []; atoms = []; users_are = c.in_err-index.ensures.err ∙ sym (append-nil c.self.inside.users.keys); atoms_are = sym (append-nil c.self.inside.atoms.keys) })

pub returns-clause-extends : goal.returns-clause-extends
returns-clause-extends c =
    let users = c.self.inside.users.keys in
    let behind = inserted_behind bytes_eq users c.args.user.now.0 in
    rw (← c.self.view_is) (record { users = behind.0; atoms = []; users_are = c.in_ok-index.ensures.keys ∙ behind.1; atoms_are = sym (append-nil c.self.inside.atoms.keys) })

pub returns-clause-user : goal.returns-clause-user
returns-clause-user c =
    let s = c.in_ok-index.ensures.stored in
    ap (λ (n : Name). record { 0 = n }) (some_at c.insert_full.new.self.keys c.in_ok-index.index s.0 [] s.1 ∙ sym (same_name-true c.args.user.now.0 s.0 s.2))

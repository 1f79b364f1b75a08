use Rattle.std.proofs.Common.{◌∙◌, Some}
use Rattle.graph_core.proofs.PlaceLemmas.{gives_by, goes_to_both, gives_no_user, gives_no_atom}
use Rattle.graph_core.proofs.indices.Indices.place.Goals as goal

pub returns-in_err-user : goal.returns-in_err-user
returns-in_err-user c = rw c.from_residual.ensures (λ l w. gives_no_user c.args.self.now c.args.user.now c.args.atom.now l c.in_err-user.ensures.index w)

pub returns-in_err-atom : goal.returns-in_err-atom
returns-in_err-atom c = rw c.from_residual-in_err-atom.ensures (λ l w. gives_no_atom c.args.self.now c.args.user.now c.args.atom.now l c.in_err-atom.ensures w)

pub returns : goal.returns
returns c = λ l w.
    gives_by c.args.self.now c.args.user.now c.args.atom.now (Some c.in_ok-user.user) (Some c.in_ok-atom.atom) l c.in_ok-user.ensures.index c.in_ok-atom.ensures w
    ∙ goes_to_both c.in_ok-user.user c.in_ok-atom.atom l

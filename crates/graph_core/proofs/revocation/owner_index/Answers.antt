use Rattle.std.proofs.Common.{◌∙◌, Some, None, ap, sym}
use Rattle.std.specs.Option.{option_copied}
use Rattle.graph_core.specs.Indices.{user_at}
use Rattle.graph_core.proofs.NamedLemmas.{owns_by}
use Rattle.graph_core.proofs.revocation.owner_index.Goals as goal

pub returns-in-Some : goal.returns-in-Some
returns-in-Some c = λ i here.
    owns_by c.args.owners.now (user_at c.args.indices.now i) c.args.atom.now (Some c.in-Some.owner.now) (sym c.owner_of.ensures ∙ ap option_copied c.in-Some.is) ∙ c.user.ensures.index i here

pub returns-in-None : goal.returns-in-None
returns-in-None c = λ i here.
    owns_by c.args.owners.now (user_at c.args.indices.now i) c.args.atom.now None (sym c.owner_of.ensures ∙ ap option_copied c.in-None.is)

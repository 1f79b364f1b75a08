use Rattle.grants_core.proofs.owners.Owners.owns.Goals as goal

pub returns : goal.returns
returns c = c.owns_table.ensures c.args.atom.now.kind

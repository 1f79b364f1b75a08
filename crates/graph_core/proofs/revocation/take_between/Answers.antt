use Rattle.graph_core.proofs.OptionLemmas.{off_between}
use Rattle.graph_core.proofs.revocation.take_between.Goals as goal

pub returns-in-Option-clause-links : goal.returns-in-Option-clause-links
returns-in-Option-clause-links c =
    rw c.in-Option.is (off_between c.args.by c.args.user c.args.atom c.args.links.now.links c.take_options.new.self.links c.take_options.ensures.links)

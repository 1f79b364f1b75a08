use Rattle.std.proofs.Common.{rules}
use Rattle.links_core.proofs.held.has_option_before.Goals as goal

pub returns-then-link : goal.returns-then-link
returns-then-link c = search rules

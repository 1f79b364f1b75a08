use Rattle.std.proofs.Common.{rules}
use Rattle.base_core.proofs.builder.ValuesBuilder.push.Goals as goal

pub returns-clause-ok : goal.returns-clause-ok
returns-clause-ok c = search rules

use Rattle.tables_core.proofs.CaptureLemmas.{captures-more, due-all}
use Rattle.tables_core.proofs.capture.next_number.Goals as goal

pub returns-then-number-lt18446744073709551615-clause-rest : goal.returns-then-number-lt18446744073709551615-clause-rest
returns-then-number-lt18446744073709551615-clause-rest c = due-all c.args.number c.args.tables.now.entries c.requires

pub returns-clause-captures : goal.returns-clause-captures
returns-clause-captures c = captures-more 0 c.release.new.tables.entries c.release.ensures.captures

pub returns-clause-rest : goal.returns-clause-rest
returns-clause-rest c = due-all 0 c.release.new.tables.entries c.release.ensures.captures

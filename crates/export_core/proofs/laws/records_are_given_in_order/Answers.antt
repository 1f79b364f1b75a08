use Rattle.export_core.proofs.Giving.{giving_keeps, giving_more}
use Rattle.export_core.proofs.laws.records_are_given_in_order.Goals as goal

pub returns-clause-kept : goal.returns-clause-kept
returns-clause-kept c = giving_keeps

pub returns-clause-on : goal.returns-clause-on
returns-clause-on c = giving_more

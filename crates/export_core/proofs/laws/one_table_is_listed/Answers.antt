use Rattle.export_core.proofs.Alone.{lists_alone}
use Rattle.export_core.proofs.laws.one_table_is_listed.Goals as goal

pub returns : goal.returns
returns c = lists_alone

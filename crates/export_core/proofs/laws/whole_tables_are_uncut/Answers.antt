use Rattle.export_core.proofs.Uncut.{whole_is_uncut}
use Rattle.export_core.proofs.laws.whole_tables_are_uncut.Goals as goal

pub returns : goal.returns
returns c = whole_is_uncut

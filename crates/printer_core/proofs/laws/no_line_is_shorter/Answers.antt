use Rattle.printer_core.proofs.Shortest.{no_shorter}
use Rattle.printer_core.proofs.laws.no_line_is_shorter.Goals as goal

pub returns : goal.returns
returns c = no_shorter

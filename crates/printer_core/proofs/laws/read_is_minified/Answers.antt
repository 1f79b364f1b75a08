use Rattle.std.proofs.Common.{ℕ, List, arith}
use Rattle.reader_core.specs.declared.statement.Statement.{Statement}
use Rattle.reader_core.specs.Language.{Spells}
use Rattle.printer_core.specs.declared.spacing.Spacing.TheVariants as spacings
use Rattle.printer_core.proofs.Back.{spells_again}
use Rattle.printer_core.proofs.Shortest.{no_shorter}
use Rattle.printer_core.proofs.laws.read_is_minified.Goals as goal

pub returns : goal.returns
returns c = λ (line : List ℕ) (s : Statement) (p : Spells line s). spells_again spacings.Minified line s p (omega (arith, no_shorter line s p, p.says.short))

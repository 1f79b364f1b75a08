use Rattle.std.proofs.Common.{◌≤◌, ℕ, List, length, refl, arith}
use Rattle.std.specs.Prelude.{nat_le}
use Rattle.base_core.specs.declared.name.User.{User}
use Rattle.reader_core.specs.declared.statement.Statement.{Statement}
use Rattle.reader_core.specs.Language.{Spells}
use Rattle.printer_core.proofs.JournalLine.{whole, at_most}
use Rattle.printer_core.proofs.Shortest.{no_shorter}
use Rattle.printer_core.proofs.laws.journal_line_is_short.Goals as goal

pub returns : goal.returns
returns c = λ (line : List ℕ) (user : User) (s : Statement) (p : Spells line s) (few : length user.0 ≤ 30).
    at_most user s (nat_le (length (whole user s)) 4096) refl few (omega (arith, no_shorter line s p, p.says.short))

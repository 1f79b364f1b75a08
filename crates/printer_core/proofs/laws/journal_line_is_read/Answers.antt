use Rattle.std.proofs.Common.{ℕ, List, length, refl}
use Rattle.std.specs.Prelude.{nat_le}
use Rattle.base_core.specs.declared.name.User.{User}
use Rattle.reader_core.specs.declared.statement.Statement.{Statement}
use Rattle.reader_core.specs.Language.{Spells}
use Rattle.printer_core.proofs.JournalLine.{whole, spelled_behind}
use Rattle.printer_core.proofs.laws.journal_line_is_read.Goals as goal

pub returns : goal.returns
returns c = λ (line : List ℕ) (user : User) (s : Statement) (p : Spells line s).
    spelled_behind user s line p (nat_le (length (whole user s)) 4096) refl

use Rattle.std.proofs.Common.{ℕ, List, length}
use Rattle.std.specs.Prelude.{nat_le}
use Rattle.base_core.specs.Words.{IsName}
use Rattle.base_core.specs.declared.name.User.{User}
use Rattle.reader_core.specs.declared.statement.Statement.{Statement}
use Rattle.reader_core.specs.Language.{Spells}
use Rattle.printer_core.proofs.JournalLine.{whole, high_by}
use Rattle.printer_core.proofs.laws.journal_line_is_one_line.Goals as goal

pub returns : goal.returns
returns c = λ (line : List ℕ) (user : User) (s : Statement) (p : Spells line s) (name : IsName user.0).
    high_by user s line p name (nat_le (length (whole user s)) 4096)

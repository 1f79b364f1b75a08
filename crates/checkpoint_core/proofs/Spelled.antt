-- CHECKPOINT is a statement, which a line spells.
use Rattle.std.proofs.Common.{List, [], ◌∷◌, ℕ, arith}
use Rattle.std.proofs.lemmas.List.Elements.{All-nil, All-cons}
use Rattle.base_core.specs.declared.keyword.Keyword.TheVariants as keywords
use Rattle.lexer_core.specs.Lexing.{IsProper, Key}
use Rattle.reader_core.specs.declared.statement.Statement.TheVariants as statements
use Rattle.reader_core.specs.Language.{Spells}
use Rattle.printer_core.specs.declared.spacing.Spacing.TheVariants as spacings
use Rattle.printer_core.specs.Printing.{statement_text}
use Rattle.printer_core.proofs.Back.{spells_back}

pub checkpoint_spelled : (line : List ℕ) × Spells line statements.Checkpoint
checkpoint_spelled = (
  statement_text spacings.Minified statements.Checkpoint,
  spells_back spacings.Minified statements.Checkpoint tt (All-cons IsProper (Key keywords.Checkpoint) [] tt (All-nil IsProper)) (omega arith),
)

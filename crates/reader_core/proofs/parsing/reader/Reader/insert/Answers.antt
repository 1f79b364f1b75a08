use Rattle.std.proofs.Common.{arith}
use Rattle.std.specs.Prelude.{false}
use Rattle.lexer_core.specs.Lexing.{kind_of}
use Rattle.reader_core.specs.Sentences.{comma_separated}
use Rattle.reader_core.specs.Saying.{value_lexeme}
use Rattle.reader_core.proofs.Fine.{few_if_fine}
use Rattle.reader_core.proofs.parsing.reader.Reader.insert.Goals as goal

pub from_builder-requires : goal.from_builder-requires
from_builder-requires c =
    let values = c.in_ok-items.items in
    (omega arith, (c.in_ok-items.ensures.some, few_if_fine (comma_separated 32 false) (λ v. kind_of (value_lexeme v)) values c.in_ok-items.ensures.faultless))

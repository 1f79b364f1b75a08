use Rattle.std.proofs.Common.{arith}
use Rattle.lexer_core.specs.declared.token.TokenKind.TheVariants as kinds
use Rattle.reader_core.specs.Sentences.{conditions_rule}
use Rattle.reader_core.proofs.Fine.{few_if_fine}
use Rattle.reader_core.proofs.parsing.reader.Reader.conditions.Goals as goal

pub from_vec-requires : goal.from_vec-requires
from_vec-requires c =
    (omega arith, few_if_fine conditions_rule (λ x. kinds.Name x.column) c.in_ok-conditions.conditions.items c.in_ok-conditions.ensures.faultless)

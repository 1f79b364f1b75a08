use Rattle.std.proofs.Common.{arith}
use Rattle.lexer_core.specs.declared.token.TokenKind.TheVariants as kinds
use Rattle.reader_core.specs.Sentences.{names_rule}
use Rattle.reader_core.proofs.Fine.{few_if_fine, distinct_if_fine}
use Rattle.reader_core.proofs.parsing.reader.Reader.sets.Goals as goal

pub from_vec-requires : goal.from_vec-requires
from_vec-requires c =
    let sets = c.in_ok-sets.sets.items in
    (omega arith, (c.in_ok-sets.ensures.some, (few_if_fine (names_rule 32) (λ x. kinds.Name x.column) sets c.in_ok-sets.ensures.faultless, distinct_if_fine 32 (λ x. x.column) sets c.in_ok-sets.ensures.faultless)))

use Rattle.std.proofs.Common.{arith}
use Rattle.lexer_core.specs.declared.token.TokenKind.TheVariants as kinds
use Rattle.reader_core.specs.Sentences.{names_rule}
use Rattle.reader_core.proofs.Fine.{few_if_fine, distinct_if_fine}
use Rattle.reader_core.proofs.parsing.reader.Reader.users.Goals as goal

pub from_vec-requires : goal.from_vec-requires
from_vec-requires c =
    let users = c.in_ok-users.users.items in
    (omega arith, (c.in_ok-users.ensures.some, (few_if_fine (names_rule 16) (λ x. kinds.Name x.0) users c.in_ok-users.ensures.faultless, distinct_if_fine 16 (λ x. x.0) users c.in_ok-users.ensures.faultless)))

use Rattle.lexer_core.specs.declared.token.TokenKind.TheVariants as kinds
use Rattle.reader_core.specs.Privileges.{word_of, word_keyword}
use Rattle.reader_core.specs.Sentences.{privileges_rule}
use Rattle.reader_core.proofs.Fine.{few_if_fine, different_if_fine}
use Rattle.reader_core.proofs.parsing.reader.Reader.privileges.Goals as goal

pub from_vec-requires-clause-few : goal.from_vec-requires-clause-few
from_vec-requires-clause-few c = few_if_fine privileges_rule (λ p. kinds.Keyword (word_keyword (word_of p))) c.in_ok-privileges.privileges.items c.in_ok-privileges.ensures.faultless

pub from_vec-requires-clause-different : goal.from_vec-requires-clause-different
from_vec-requires-clause-different c = different_if_fine c.in_ok-privileges.privileges.items c.in_ok-privileges.ensures.faultless

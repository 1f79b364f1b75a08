use Rattle.std.proofs.Common.{arith}
use Rattle.lexer_core.specs.Lexing.{long_name}
use Rattle.lexer_core.proofs.Put.{put, fault_first}
use Rattle.lexer_core.proofs.Words.{front_is_word, keyword_first, name_first}
use Rattle.lexer_core.proofs.word.word.Goals as goal

pub returns-then-len-gt-MAX_NAME : goal.returns-then-len-gt-MAX_NAME
returns-then-len-gt-MAX_NAME c = fault_first c.args.bytes.now c.args.start _ (long_name c.requires.letter (omega (arith, c.word_len-len.ensures.len)))

pub read-requires-clause-word : goal.read-requires-clause-word
read-requires-clause-word c = front_is_word c.args.bytes.now c.word_len-len.result c.word_len-len.ensures.len c.requires.letter

pub returns-in-Keyword : goal.returns-in-Keyword
returns-in-Keyword c =
    put c.args.bytes.now c.args.start _ _ _ _ c.push.result (keyword_first c.args.bytes.now c.word_len-len.result c.word_len-len.ensures.len c.requires.letter c.in-Keyword.keyword c.in-Keyword.ensures) c.push.ensures

pub returns-in-Name : goal.returns-in-Name
returns-in-Name c =
    put c.args.bytes.now c.args.start _ _ _ _ c.push-in-Name.result (name_first c.args.bytes.now c.word_len-len.result c.word_len-len.ensures.len c.requires.letter c.in-Name.name c.in-Name.ensures) c.push-in-Name.ensures

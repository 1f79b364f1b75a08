use Rattle.std.proofs.Common.{sym}
use Rattle.lexer_core.specs.Lexing as lexemes
use Rattle.reader_core.specs.Grammar.{Key}
use Rattle.reader_core.proofs.Taking.{one_taken, missing}
use Rattle.reader_core.proofs.parsing.reader.Reader.keyword.Goals as goal

pub returns-then-not-at_keyword : goal.returns-then-not-at_keyword
returns-then-not-at_keyword c = missing c.args.self.now (Key c.args.wanted) c.fault.result (sym c.if-not-at_keyword.ensures.next) c.fault.ensures

pub returns : goal.returns
returns c = one_taken c.args.self.now c.advance.new.self (Key c.args.wanted) (lexemes.Key c.args.wanted) (sym c.if-not-at_keyword.ensures.next) (c.at_keyword.ensures.lexeme c.if-not-at_keyword.false) c.advance.ensures.rest c.advance.ensures.line

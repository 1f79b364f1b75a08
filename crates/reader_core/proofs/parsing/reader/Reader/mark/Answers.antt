use Rattle.std.proofs.Common.{sym}
use Rattle.lexer_core.specs.Lexing as lexemes
use Rattle.reader_core.specs.Grammar.{Sign}
use Rattle.reader_core.proofs.Taking.{one_taken, missing}
use Rattle.reader_core.proofs.parsing.reader.Reader.mark.Goals as goal

pub returns-then-not-at_mark : goal.returns-then-not-at_mark
returns-then-not-at_mark c = missing c.args.self.now (Sign c.args.wanted) c.fault.result (sym c.if-not-at_mark.ensures.next) c.fault.ensures

pub returns : goal.returns
returns c = one_taken c.args.self.now c.advance.new.self (Sign c.args.wanted) (lexemes.Sign c.args.wanted) (sym c.if-not-at_mark.ensures.next) (c.at_mark.ensures.lexeme c.if-not-at_mark.false) c.advance.ensures.rest c.advance.ensures.line

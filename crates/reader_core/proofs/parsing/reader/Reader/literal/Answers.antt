use Rattle.std.proofs.Common.{sym}
use Rattle.reader_core.specs.Grammar.{AnyLiteral}
use Rattle.reader_core.specs.Saying.{value_lexeme}
use Rattle.reader_core.proofs.Taking.{one_taken, missing}
use Rattle.reader_core.proofs.parsing.reader.Reader.literal.Goals as goal

pub returns-then-not-at_literal : goal.returns-then-not-at_literal
returns-then-not-at_literal c = missing c.args.self.now AnyLiteral c.fault.result (sym c.if-not-at_literal.ensures) c.fault.ensures

pub returns : goal.returns
returns c = one_taken c.args.self.now c.advance.new.self AnyLiteral (value_lexeme c.in_ok-value.value) (sym c.if-not-at_literal.ensures) c.in_ok-value.ensures.ok c.advance.ensures.rest c.advance.ensures.line

use Rattle.std.proofs.Common.{sym}
use Rattle.reader_core.proofs.Finishing.{ends_behind, fails_behind}
use Rattle.reader_core.proofs.parsing.reader.Reader.finish.Goals as goal

pub returns-then-at_mark-clause-ok : goal.returns-then-at_mark-clause-ok
returns-then-at_mark-clause-ok c = ends_behind c.args.self.now c.advance.new.self c.nothing_more.result (sym c.if-at_mark.ensures.next) (c.at_mark.ensures.lexeme c.if-at_mark.true) c.advance.ensures.rest c.advance.ensures.line c.nothing_more.ensures.ok

pub returns-then-at_mark-clause-err : goal.returns-then-at_mark-clause-err
returns-then-at_mark-clause-err c = fails_behind c.args.self.now c.advance.new.self c.nothing_more.result (sym c.if-at_mark.ensures.next) (c.at_mark.ensures.lexeme c.if-at_mark.true) c.advance.ensures.rest c.advance.ensures.line c.nothing_more.ensures.err

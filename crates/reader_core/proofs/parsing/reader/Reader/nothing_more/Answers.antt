use Rattle.std.proofs.Common.{sym, ◌∙◌, ap}
use Rattle.reader_core.specs.Cursor.{fault_of}
use Rattle.reader_core.proofs.Taking.{none_left, some_left}
use Rattle.reader_core.proofs.parsing.reader.Reader.nothing_more.Goals as goal

pub returns-then-is_some-clause-err : goal.returns-then-is_some-clause-err
returns-then-is_some-clause-err c = some_left c.args.self.now c.peek.result c.peek.ensures (sym c.if-is_some.ensures) ∙ sym (ap fault_of c.fault.ensures)

pub returns-clause-ok : goal.returns-clause-ok
returns-clause-ok c = none_left c.args.self.now c.peek.result c.peek.ensures (sym c.if-is_some.ensures)

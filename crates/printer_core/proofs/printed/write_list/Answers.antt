use Rattle.std.proofs.Common.{arith}
use Rattle.printer_core.proofs.Writing.{first_and_rest, none_listed}
use Rattle.reader_core.specs.Saying.{separator_lexeme}
use Rattle.printer_core.proofs.printed.write_list.Goals as goal

pub returns-in-len1-up-clause-written : goal.returns-in-len1-up-clause-written
returns-in-len1-up-clause-written g c =
    first_and_rest (separator_lexeme g.T.Printed.SEPARATOR) g.T.Printed.says c.args.items.now c.first-item.result (omega arith) c.first-item.is c.write.ensures.written c.write_behind.ensures.written

pub returns-in_default-clause-written : goal.returns-in_default-clause-written
returns-in_default-clause-written g c =
    none_listed (separator_lexeme g.T.Printed.SEPARATOR) g.T.Printed.says c.args.items.now c.args.page.now (omega arith)

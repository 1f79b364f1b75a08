use Rattle.std.proofs.Common.{arith}
use Rattle.std.proofs.lemmas.List.{take_all}
use Rattle.std.proofs.lemmas.List.Elements.{All-nil}
use Rattle.printer_core.proofs.Writing.{nothing, each_on, all_on}
use Rattle.reader_core.specs.Saying.{separator_lexeme}
use Rattle.printer_core.proofs.printed.write_behind.Goals as goal

pub loop-item-init : goal.loop-item-init
loop-item-init g c = record { written = nothing c.args.page.now; well_formed = All-nil g.T.Printed.well_formed }

pub loop-item-preserved : goal.loop-item-preserved
loop-item-preserved g c = record {
  written = each_on (separator_lexeme g.T.Printed.SEPARATOR) g.T.Printed.says g.T.Printed.well_formed c.args.items.now c.loop-item.item-index c.item-item.result (omega arith) c.item-item.is c.loop-item.invariant.written (rw c.SEPARATOR.ensures at c.separator.ensures) c.write.ensures.written;
  well_formed = all_on (separator_lexeme g.T.Printed.SEPARATOR) g.T.Printed.says g.T.Printed.well_formed c.args.items.now c.loop-item.item-index c.item-item.result (omega arith) c.item-item.is c.loop-item.invariant.well_formed c.write.ensures.well_formed;
}

pub returns-clause-written : goal.returns-clause-written
returns-clause-written g c =
    let all = take_all c.loop-item.item-index c.args.items.now (omega arith) in
    rw all at c.loop-item.invariant.written

use Rattle.std.proofs.Common.{◌<◌, ◌≤◌, length, arith, ap}
use Rattle.std.proofs.lemmas.Bool.Decides.{nat_tests}
use Rattle.printer_core.proofs.Writing.{then, no_filter, filter_written}
use Rattle.printer_core.proofs.page.Page.filter.Goals as goal

pub returns-then-not-is_empty-clause-written : goal.returns-then-not-is_empty-clause-written
returns-then-not-is_empty-clause-written c =
    let same = ap length c.as_slice-conditions.ensures.items in
    let some : 0 < length c.args.filter.now = grind (arith, nat_tests) in
    filter_written c.args.filter.now some (then c.keyword.ensures (rw c.as_slice-conditions.ensures.items at c.write_list.ensures.written))

pub returns-else-not-is_empty-clause-written : goal.returns-else-not-is_empty-clause-written
returns-else-not-is_empty-clause-written c =
    let same = ap length c.as_slice-conditions.ensures.items in
    let none : length c.args.filter.now ≤ 0 = grind (arith, nat_tests) in
    no_filter c.args.filter.now c.args.self.now none

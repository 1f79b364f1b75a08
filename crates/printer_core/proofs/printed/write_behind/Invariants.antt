use Rattle.std.proofs.Common.{◌∷◌, All, take}
use Rattle.std.specs.List.{flat_map}
use Rattle.printer_core.specs.Printing.{Prints}
use Rattle.reader_core.specs.Saying.{separator_lexeme}
use Rattle.printer_core.proofs.printed.write_behind.Given as goal

-- the items so far are on the page, each behind a separator
abbrev pub invariant-loop-item : goal.invariant-loop-item
invariant-loop-item g l = record {
  written : Prints (flat_map (λ x. separator_lexeme g.T.Printed.SEPARATOR ∷ g.T.Printed.says x) (take l.item-index l.items)) l.fn.page l.page;
  well_formed : All g.T.Printed.well_formed (take l.item-index l.items);
}

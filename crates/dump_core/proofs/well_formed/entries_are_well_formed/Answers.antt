use Rattle.std.proofs.Common.{List, subst}
use Rattle.std.specs.List.{All}
use Rattle.std.proofs.lemmas.List.{take_all}
use Rattle.std.proofs.lemmas.List.Elements.{All-more, recursion_from_All}
use Rattle.reader_core.specs.Forming.{IsWellFormed}
use Rattle.system_core.specs.declared.machine.event.Entry.{Entry}
use Rattle.dump_core.proofs.well_formed.entries_are_well_formed.Goals as goal

pub loop-entry-preserved : goal.loop-entry-preserved
loop-entry-preserved c =
    let P : Entry → Type 0 = λ e. IsWellFormed e.statement in
    All-more P c.args.entries.now c.loop-entry.entry-index c.entry-item.result c.loop-entry-test.true c.loop-entry.invariant (subst P c.entry-item.is c.statement.ensures)

pub returns : goal.returns
returns c =
    let P : Entry → Type 0 = λ e. IsWellFormed e.statement in
    let Q : List Entry → Type 0 = All P in
    recursion_from_All P c.args.entries.now (subst Q (take_all c.loop-entry.entry-index c.args.entries.now c.loop-entry-test.false) c.loop-entry.invariant)

use Rattle.std.proofs.Common.{List, subst}
use Rattle.std.specs.List.{All}
use Rattle.std.proofs.lemmas.List.{take_all}
use Rattle.std.proofs.lemmas.List.Elements.{All-more}
use Rattle.reader_core.specs.declared.privilege.Privilege.{Privilege}
use Rattle.reader_core.specs.Forming.{IsWellFormedPrivilege}
use Rattle.dump_core.proofs.well_formed.privileges.Goals as goal

pub loop-item-preserved : goal.loop-item-preserved
loop-item-preserved c =
    let P : Privilege → Type 0 = IsWellFormedPrivilege in
    All-more P c.args.items.now c.loop-item.item-index c.item-item.result c.loop-item-test.true c.loop-item.invariant (subst P c.item-item.is c.privilege.ensures)

pub returns : goal.returns
returns c =
    let Q : List Privilege → Type 0 = All IsWellFormedPrivilege in
    subst Q (take_all c.loop-item.item-index c.args.items.now c.loop-item-test.false) c.loop-item.invariant

use Rattle.std.proofs.Common.{List, map, sym, subst}
use Rattle.std.specs.List.{flat_map}
use Rattle.base_core.specs.declared.name.Name.{Name}
use Rattle.tables_core.specs.Contents.{Table}
use Rattle.system_core.specs.declared.machine.event.Entry.{Entry}
use Rattle.dump_core.specs.Dump.{creation, insertions}
use Rattle.dump_core.specs.Laws.{AreWellFormed}
use Rattle.dump_core.proofs.Formed.{creations-formed, insertions-formed}
use Rattle.dump_core.proofs.writing.write_dump.Goals as goal

pub write_contents-requires-clause-creations : goal.write_contents-requires-clause-creations
write_contents-requires-clause-creations g c =
    let w = c.args.system.now in
    let Formed : List Entry → Type 0 = AreWellFormed in
    let Created : List (Name × Table) → Type 0 = λ ts. AreWellFormed (map creation ts) in
    let formed : AreWellFormed w.journal = subst Formed c.journal.ensures.journal c.entries_are_well_formed.ensures in
    subst Created (sym c.tables.ensures) (creations-formed w.limits w.journal c.journal.ensures.lawful.journal formed)

pub write_contents-requires-clause-rows : goal.write_contents-requires-clause-rows
write_contents-requires-clause-rows g c =
    let w = c.args.system.now in
    let Formed : List Entry → Type 0 = AreWellFormed in
    let Inserted : List (Name × Table) → Type 0 = λ ts. AreWellFormed (flat_map insertions ts) in
    let formed : AreWellFormed w.journal = subst Formed c.journal.ensures.journal c.entries_are_well_formed.ensures in
    subst Inserted (sym c.tables.ensures) (insertions-formed w.limits w.journal c.journal.ensures.lawful.journal formed)

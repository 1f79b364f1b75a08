use Rattle.std.proofs.Common.{List, map, ◌++◌}
use Rattle.std.specs.List.{flat_map}
use Rattle.reader_core.specs.Forming.{IsWellFormed}
use Rattle.system_core.specs.declared.machine.event.Entry.{Entry}
use Rattle.dump_core.specs.Dump.{creation, insertions, granting, grants_together, tables_kept}
use Rattle.dump_core.proofs.WritingLemmas.{All-before, All-behind}
use Rattle.dump_core.proofs.writing.write_image.Goals as goal

pub write_contents-requires-clause-rows : goal.write_contents-requires-clause-rows
write_contents-requires-clause-rows g c =
    let tables = tables_kept c.args.image.now in
    let rows : List Entry = flat_map insertions tables in
    let grants : List Entry = map granting (grants_together c.args.image.now.grants) in
    let Formed : Entry → Type 0 = λ e. IsWellFormed e.statement in
    All-before Formed rows grants (All-behind Formed (map creation tables) (rows ++ grants) c.requires.formed)

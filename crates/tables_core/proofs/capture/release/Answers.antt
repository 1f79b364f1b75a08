use Rattle.std.proofs.Common.{◌∙◌, arith}
use Rattle.indexmap.specs.Layout.{length-set_value_at}
use Rattle.base_core.specs.declared.name.Name.{Name}
use Rattle.tables_core.specs.Capture.{StoredTable}
use Rattle.tables_core.proofs.CaptureLemmas.{captures-take, shown-put}
use Rattle.tables_core.proofs.capture.release.Goals as goal

pub loop-place-preserved : goal.loop-place-preserved
loop-place-preserved c =
    let k = c.loop-place.invariant in
    let ts = c.loop-place.tables.entries in
    let i = c.loop-place.place in
    let t : Name × StoredTable = (c.pair_mut-table.result.0.now, c.pair_mut-table.result.1.now) in
    let y = c.release.new.self in
    let is = c.pair_mut-table.ensures.value in
    record {
      long = length-set_value_at ts i y ∙ k.long;
      shown = shown-put 0 t y ts i is c.release.ensures.contents ∙ k.shown;
      captures = captures-take t y ts i is (omega (arith, c.release.ensures.capture)) k.captures;
    }

use Rattle.std.proofs.Common.{◌≡◌, length, ap, refl, arith}
use Rattle.std.specs.Arc.{arc_value}
use Rattle.capture_core.specs.declared.image.Image.{Image}
use Rattle.export_core.proofs.Places.{length-map_zip, MatchOption-each}
use Rattle.export_core.proofs.WalkLemmas.{told-some}
use Rattle.export_core.proofs.asked.Asked.begin.Goals as goal

pub invariant_of-result : goal.invariant_of-result
invariant_of-result c =
    let a = c.self.inside in
    let own = c.self.invariant in
    let same : length (arc_value c.in_ok-clone.field-0).tables ≡ length (arc_value a.image).tables = ap (λ (i : Image). length i.tables) c.in_ok-clone.ensures.cases in
    let judged = length-map_zip _ _ _ _ c.in_ok-judgements.ensures in
    let many : length c.deref-3.result.now ≡ length a.by_rights.items = ap length c.deref-3.ensures.value in
    record {
      fits = omega (arith, own, same, judged, many);
      next = MatchOption-each _ _ _ refl told-some;
      end = λ over. cc;
    }

use Rattle.std.proofs.Common.{◌≡◌, refl, sym, subst, IfOk, rules}
use Rattle.system_core.specs.World.{World, IsLawfulWorld}
use Rattle.system_core.specs.Imaging.{IsKeptImage}
use Rattle.desk_core.proofs.Taking.{images_are}
use Rattle.desk_core.proofs.object.Core.found.Goals as goal

pub returns : goal.returns
returns g c =
    let world : World = c.args.self.now.world in
    let lawful : IsLawfulWorld world = search rules in
    let kept = images_are (IsKeptImage c.deref-2.result.now c.args.number) c.image.result c.image.ensures in
    let same : c.deref-2.result.now ≡ world = search rules in
    record {
      lawful = lawful;
      same = refl;
      has_kept = c.idle_answer.ensures.looks.has_kept;
      image = subst (λ w. IfOk c.idle_answer.result.found (IsKeptImage w c.args.number)) same (subst (λ r. IfOk r (IsKeptImage c.deref-2.result.now c.args.number)) (sym c.idle_answer.ensures.found) kept);
    }

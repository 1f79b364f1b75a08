use Rattle.std.proofs.Common.{◌≡◌, Option, IfOk, sym, subst}
use Rattle.capture_core.specs.declared.image.Image.{Image}
use Rattle.system_core.specs.World.{World, IsLawfulWorld}
use Rattle.system_core.specs.Imaging.{IsKeptImage}
use Rattle.desk_core.proofs.Taking.{found_image, found_kept, shared_image}
use Rattle.desk_core.proofs.desk.Desk.image.Goals as goal

pub returns-in-Ok-clause-image : goal.returns-in-Ok-clause-image
returns-in-Ok-clause-image g c =
    let Found : Option Image → Type 0 = λ found. (w : World) × IsLawfulWorld w × (w.journal ≡ c.turn.new.pass.seen) × IsKeptImage w c.args.number found in
    shared_image Found c.into_found.result
    (subst (λ r. IfOk r Found) (sym c.into_found.ensures)
    (found_image g.K.Keeper c.args.self.now c.args.number c.in-Ok.answer c.args.pass.now c.turn.new.pass (rw c.self.view_is at c.in-Ok.ensures.done)))

pub returns-in-Ok-clause-kept : goal.returns-in-Ok-clause-kept
returns-in-Ok-clause-kept g c = found_kept g.K.Keeper c.args.self.now c.args.number c.in-Ok.answer c.args.pass.now c.turn.new.pass (rw c.self.view_is at c.in-Ok.ensures.done)

use Rattle.std.proofs.Common.{◌≡◌, Some, Ok, rules}
use Rattle.checkpoint_core.proofs.Found.{is_found}
use Rattle.checkpoint_core.proofs.putting.found.Goals as goal

pub returns-in-Some-Ok-Some-clause-image : goal.returns-in-Some-Ok-Some-clause-image
returns-in-Some-Ok-Some-clause-image g c =
    let is : Ok (Some c.in-Some-Ok-Some.image) ≡ c.in-Some-Ok-Some.field-0 = search rules in
    is_found c.image.new.pass.seen c.args.number c.in-Some-Ok-Some.field-0 c.in-Some-Ok-Some.image is c.in-Some-Ok-Some.ensures.image

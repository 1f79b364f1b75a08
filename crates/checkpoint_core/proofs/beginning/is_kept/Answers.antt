use Rattle.session_core.specs.Tending.{untended, looked}
use Rattle.checkpoint_core.proofs.beginning.is_kept.Goals as goal

pub returns-in-None : goal.returns-in-None
returns-in-None g c = looked c.args.pass.now c.image.new.pass untended (record { same = c.image.ensures.same; seen = c.image.ensures.seen; mine_is = c.image.ensures.made })

pub returns-in-Some-Err : goal.returns-in-Some-Err
returns-in-Some-Err g c = looked c.args.pass.now c.image.new.pass untended (record { same = c.image.ensures.same; seen = c.image.ensures.seen; mine_is = c.image.ensures.made })

pub returns-in-Some-Ok : goal.returns-in-Some-Ok
returns-in-Some-Ok g c = looked c.args.pass.now c.image.new.pass untended (record { same = c.image.ensures.same; seen = c.image.ensures.seen; mine_is = c.image.ensures.made })

use Rattle.std.proofs.Common.{◌∙◌}
use Rattle.desk_core.specs.Guarded.{origin_of}
use Rattle.session_core.specs.Tending.{looked}
use Rattle.session_core.proofs.Tended.{tends_watches}
use Rattle.checkpoint_core.proofs.tending.checkpoint_taken.Goals as goal

pub put-requires-clause-pass : goal.put-requires-clause-pass
put-requires-clause-pass g c = (tends_watches c.args.desk.now c.args.pass.now c.taken.new.pass c.taken.ensures).same.0 ∙ c.requires.pass

pub put-requires-clause-begins : goal.put-requires-clause-begins
put-requires-clause-begins g c =
    g.met.A.Archive.still c.args.archive.now c.args.pass.now.seen c.taken.new.pass.seen (origin_of c.args.desk.now) (tends_watches c.args.desk.now c.args.pass.now c.taken.new.pass c.taken.ensures).seen c.requires.begins

pub returns-in_err-point : goal.returns-in_err-point
returns-in_err-point g c = looked c.taken.new.pass c.put.new.pass c.taken.ensures (record { same = c.put.ensures.same; seen = c.put.ensures.seen; mine_is = c.put.ensures.made })

pub settle-requires : goal.settle-requires
settle-requires g c = c.put.ensures.same.0 ∙ ((tends_watches c.args.desk.now c.args.pass.now c.taken.new.pass c.taken.ensures).same.0 ∙ c.requires.pass)

pub returns-in_err-settle : goal.returns-in_err-settle
returns-in_err-settle g c =
    looked c.put.new.pass c.settle.new.pass (looked c.taken.new.pass c.put.new.pass c.taken.ensures (record { same = c.put.ensures.same; seen = c.put.ensures.seen; mine_is = c.put.ensures.made }))
    (record { same = c.settle.ensures.same; seen = c.settle.ensures.seen; mine_is = c.settle.ensures.made })

pub remove_old-requires : goal.remove_old-requires
remove_old-requires g c = c.settle.ensures.same.0 ∙ (c.put.ensures.same.0 ∙ ((tends_watches c.args.desk.now c.args.pass.now c.taken.new.pass c.taken.ensures).same.0 ∙ c.requires.pass))

pub returns-in_err-remove_old : goal.returns-in_err-remove_old
returns-in_err-remove_old g c =
    looked c.settle.new.pass c.remove_old.new.pass
    (looked c.put.new.pass c.settle.new.pass (looked c.taken.new.pass c.put.new.pass c.taken.ensures (record { same = c.put.ensures.same; seen = c.put.ensures.seen; mine_is = c.put.ensures.made }))
    (record { same = c.settle.ensures.same; seen = c.settle.ensures.seen; mine_is = c.settle.ensures.made }))
    c.remove_old.ensures

pub returns : goal.returns
returns g c =
    looked c.settle.new.pass c.remove_old.new.pass
    (looked c.put.new.pass c.settle.new.pass (looked c.taken.new.pass c.put.new.pass c.taken.ensures (record { same = c.put.ensures.same; seen = c.put.ensures.seen; mine_is = c.put.ensures.made }))
    (record { same = c.settle.ensures.same; seen = c.settle.ensures.seen; mine_is = c.settle.ensures.made }))
    c.remove_old.ensures

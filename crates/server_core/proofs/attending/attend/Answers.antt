use Rattle.std.proofs.Common.{◌∙◌}
use Rattle.server_core.specs.Sessions.{ServesPieces, no_piece}
use Rattle.server_core.proofs.SamePass.{pieces_then, pieces_same}
use Rattle.server_core.proofs.attending.attend.Goals as goal

pub loop-init : goal.loop-init
loop-init g c = record { own = c.requires.pass; served = no_piece; nothing = c.requires.nothing }

pub loop-preserved : goal.loop-preserved
loop-preserved g c =
    let protocol = g.I.Session.SessionMachine.protocol in
    let by = g.I.Instance.by in
    let desk = c.args.desk.now in
    let old = c.args.pass.now in
    let new = c.attend_once.new.pass in
    let served : ServesPieces protocol by desk old new = pieces_then protocol by desk old c.loop.pass new c.loop.invariant.served c.attend_once.ensures.pieces in
    record {
      own = (pieces_same protocol by desk old new served).0 ∙ c.requires.pass;
      served = served;
      nothing = c.attend_once.ensures.handed_on;
    }

pub returns-in-None-clause-pieces : goal.returns-in-None-clause-pieces
returns-in-None-clause-pieces g c =
    pieces_then g.I.Session.SessionMachine.protocol g.I.Instance.by c.args.desk.now c.args.pass.now c.loop.pass c.attend_once.new.pass c.loop.invariant.served c.attend_once.ensures.pieces

use Rattle.std.proofs.Common.{sym, ◌∙◌, subst}
use Rattle.server_core.specs.Sessions.{ServesPieces, no_piece, looked}
use Rattle.server_core.proofs.SamePass.{piece_then, pieces_same}
use Rattle.server_core.proofs.conversing.converse.Goals.{then-is_owing, else-is_owing+then-taken-piece}
use Rattle.server_core.proofs.conversing.converse.Goals as goal

pub loop-init : goal.loop-init
loop-init g c = record { own = c.requires.pass; served = no_piece }

pub loop-preserved : goal.loop-preserved
loop-preserved g c =
    let protocol = g.I.Session.SessionMachine.protocol in
    let by = g.I.Instance.by in
    let desk = c.args.desk.now in
    let old = c.args.pass.now in
    let before : ServesPieces protocol by desk old c.has_room.new.pass = looked c.loop.pass c.has_room.new.pass c.loop.invariant.served c.has_room.ensures in
    let served : ServesPieces protocol by desk old c.if-is_owing.pass = elim c.if-is_owing.branch [
      | then-is_owing w ↦ subst (ServesPieces protocol by desk old) (sym w.pass-is) before
      | else-is_owing+then-taken-piece w ↦ subst (ServesPieces protocol by desk old) (sym w.pass-is) (piece_then protocol by desk old c.has_room.new.pass w.answer_next.new.pass before w.answer_next.ensures)
    ] in
    record { own = (pieces_same protocol by desk old c.if-is_owing.pass served).0 ∙ c.requires.pass; served = served }

pub returns-in-Ended : goal.returns-in-Ended
returns-in-Ended g c =
    let protocol = g.I.Session.SessionMachine.protocol in
    let by = g.I.Instance.by in
    let desk = c.args.desk.now in
    let old = c.args.pass.now in
    let before : ServesPieces protocol by desk old c.has_room.new.pass = looked c.loop.pass c.has_room.new.pass c.loop.invariant.served c.has_room.ensures in
    elim c.if-is_owing.branch [
      | then-is_owing w ↦ subst (ServesPieces protocol by desk old) (sym w.pass-is) before
      | else-is_owing+then-taken-piece w ↦ subst (ServesPieces protocol by desk old) (sym w.pass-is) (piece_then protocol by desk old c.has_room.new.pass w.answer_next.new.pass before w.answer_next.ensures)
    ]

pub returns-in-Some-false : goal.returns-in-Some-false
returns-in-Some-false g c = looked c.loop.pass c.has_room.new.pass c.loop.invariant.served c.has_room.ensures

pub returns-in-None-has_room : goal.returns-in-None-has_room
returns-in-None-has_room g c = looked c.loop.pass c.has_room.new.pass c.loop.invariant.served c.has_room.ensures

pub returns-else-taken-piece : goal.returns-else-taken-piece
returns-else-taken-piece g c = looked c.loop.pass c.has_room.new.pass c.loop.invariant.served c.has_room.ensures

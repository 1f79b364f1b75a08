use Rattle.std.proofs.Common.{sym, subst}
use Rattle.desk_core.specs.Guarded.{DeskPass}
use Rattle.server_core.specs.Sessions.{ServesPieces, no_piece}
use Rattle.server_core.proofs.attending.speak.Goals.{in-Piece, in-End, in_default}
use Rattle.server_core.proofs.attending.speak.Goals as goal

pub returns : goal.returns
returns g c =
    let served : DeskPass g.row.K.Denot → Type 0 = ServesPieces g.I.Session.SessionMachine.protocol g.I.Instance.by c.args.desk.now c.args.pass.now in
    elim c.match-hear.branch [
      | in-Piece w ↦ subst served (sym w.pass-is) w.answer_piece.ensures
      | in-End w ↦ subst served (sym w.pass-is) w.finish.ensures
      | in_default w ↦ subst served (sym w.pass-is) no_piece
    ]

use Rattle.std.proofs.Common.{sym, subst}
use Rattle.desk_core.specs.Guarded.{DeskPass}
use Rattle.server_core.specs.Sessions.{ServesPieces, no_piece, looked}
use Rattle.server_core.proofs.attending.attend_once.Goals.{in-Hearing, in-Refused, in-Leaving}
use Rattle.server_core.proofs.attending.attend_once.Goals as goal

pub returns-clause-pieces : goal.returns-clause-pieces
returns-clause-pieces g c =
    let served : DeskPass g.row.K.Denot → Type 0 = ServesPieces g.I.Session.SessionMachine.protocol g.I.Instance.by c.args.desk.now c.args.pass.now in
    elim c.match-stage.branch [
      | in-Hearing w ↦ subst served (sym w.pass-is) (looked c.args.pass.now w.end_behind.new.pass no_piece w.end_behind.ensures.watched)
      | in-Refused w ↦ subst served (sym w.pass-is) no_piece
      | in-Leaving w ↦ subst served (sym w.pass-is) no_piece
    ]

use Rattle.recovery_core.proofs.Ready.{is_known, may_begin, is_begun}
use Rattle.recovery_core.proofs.recovery.make_ready.Goals as goal

pub begin_piece-requires : goal.begin_piece-requires
begin_piece-requires g c =
    let known = is_known g.D.Dumping.is_dump c.args.points.now c.args.point c.args.resumes c.args.at (g.F.Folder.state c.args.folder.now) (g.met.F.Folder.reached c.args.folder.now) c.requires.found c.requires.named in
    may_begin g.D.Dumping.is_dump g.D.Dumping.none c.args.points.now c.args.point c.args.resumes c.args.at c.requires.under (g.F.Folder.state c.args.folder.now) (g.F.Folder.state c.keep_found.new.self) (g.F.Folder.state c.clear.new.folder) (g.F.Folder.state c.sync_names.new.self)
    known c.in_ok-keep_found.ensures.moves c.in_ok-clear.ensures c.in_ok-sync_names.ensures.moves

pub returns : goal.returns
returns g c =
    let known = is_known g.D.Dumping.is_dump c.args.points.now c.args.point c.args.resumes c.args.at (g.F.Folder.state c.args.folder.now) (g.met.F.Folder.reached c.args.folder.now) c.requires.found c.requires.named in
    is_begun g.D.Dumping.is_dump g.D.Dumping.none c.args.points.now c.args.point c.args.resumes c.args.at c.requires.under (g.F.Folder.state c.args.folder.now) (g.F.Folder.state c.keep_found.new.self) (g.F.Folder.state c.clear.new.folder) (g.F.Folder.state c.sync_names.new.self)
    known c.in_ok-keep_found.ensures.moves c.in_ok-clear.ensures c.in_ok-sync_names.ensures.moves (g.F.Folder.state c.begin_piece.new.self) c.in_ok-begin_piece.ensures.moves

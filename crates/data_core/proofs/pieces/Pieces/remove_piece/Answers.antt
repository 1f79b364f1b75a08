use Rattle.std.proofs.Common.{◌<◌, rules, ap, ◌∙◌}
use Rattle.data_core.proofs.Placed.{known_piece_gone}
use Rattle.data_core.proofs.Allowed.{may_remove}
use Rattle.data_core.specs.Written.{text_written}
use Rattle.data_core.proofs.TextStays.{piece_gone_text}
use Rattle.data_core.proofs.pieces.Pieces.remove_piece.Goals as goal

pub remove_piece-requires : goal.remove_piece-requires
remove_piece-requires g c =
    let p = c.self.inside in
    let behind : c.args.point < p.place.resumes = search rules in
    may_remove p.place c.args.point behind (g.F.Folder.state p.folder) c.self.invariant

pub invariant_of-self-2 : goal.invariant_of-self-2
invariant_of-self-2 g c =
    let p = c.self.inside in
    let behind : c.args.point < p.place.resumes = search rules in
    known_piece_gone g.D.Dumping.is_dump g.D.Dumping.none (g.F.Folder.state p.folder) (g.F.Folder.state c.remove_piece.new.self) (g.met.F.Folder.reached p.folder) p.place c.args.point behind c.self.invariant c.in-Ok.ensures.moves

pub returns-clause-text : goal.returns-clause-text
returns-clause-text g c =
    let p = c.self.inside in
    let old = g.F.Folder.state p.folder in
    let behind : c.args.point < p.place.resumes = search rules in
    piece_gone_text g.D.Dumping.is_dump g.D.Dumping.none old (g.F.Folder.state c.remove_piece.new.self) (g.met.F.Folder.reached p.folder) p.place c.args.point behind c.self.invariant c.in-Ok.ensures.moves ∙ ap (λ v. text_written (g.F.Folder.state v.folder)) c.self.view_is

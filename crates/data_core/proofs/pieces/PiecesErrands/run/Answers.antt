use Rattle.std.proofs.Common.{refl, sym, subst}
use Rattle.data_core.specs.Written.{text_written}
use Rattle.data_core.specs.Errands.{MayRun}
use Rattle.folder_core.specs.declared.errand.Errand.TheVariants as errands
use Rattle.data_core.proofs.DumpOfText.{of_told}
use Rattle.data_core.proofs.pieces.PiecesErrands.run.Goals as goal

pub put-requires : goal.put-requires
put-requires g c =
    let old = g.F.Folder.state c.args.self.now.folder in
    let new = g.F.Folder.state c.tell.new.self.folder in
    let lines_of = g.F.Folder.lines_of in
    let may = subst (MayRun g.D.Dumping.is_dump lines_of (text_written old)) c.in-Put.is c.requires in
    let may_now = subst (λ text. MayRun g.D.Dumping.is_dump lines_of text (errands.Put c.in-Put.synced c.in-Put.point c.in-Put.dump)) (sym c.tell.ensures.text) may in
    of_told g.D.Dumping.is_dump g.D.Dumping.none c.in-Put.point (lines_of c.in-Put.dump) lines_of c.in-Put.synced c.in-Put.dump refl c.tell.result old new c.tell.ensures.moves (g.met.F.Folder.reached c.tell.new.self.folder) (g.met.F.Folder.texts c.tell.new.self.folder) may_now

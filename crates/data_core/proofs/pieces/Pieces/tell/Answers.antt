use Rattle.data_core.proofs.Placed.{known_told}
use Rattle.data_core.specs.Written.{text_written}
use Rattle.std.proofs.Common.{ap, ◌∙◌}
use Rattle.data_core.proofs.TextStays.{told_text}
use Rattle.data_core.proofs.pieces.Pieces.tell.Goals as goal

pub invariant_of-self : goal.invariant_of-self
invariant_of-self g c =
    let p = c.self.inside in
    known_told g.D.Dumping.is_dump g.D.Dumping.none (g.F.Folder.state p.folder) (g.F.Folder.state c.tell-count.new.self) (g.met.F.Folder.reached p.folder) p.place c.tell-count.result c.self.invariant c.tell-count.ensures.moves

pub returns-clause-text : goal.returns-clause-text
returns-clause-text g c =
    let p = c.self.inside in
    let old = g.F.Folder.state p.folder in
    told_text g.D.Dumping.is_dump g.D.Dumping.none old (g.F.Folder.state c.tell-count.new.self) (g.met.F.Folder.reached p.folder) p.place c.tell-count.result c.self.invariant c.tell-count.ensures.moves ∙ ap (λ v. text_written (g.F.Folder.state v.folder)) c.self.view_is

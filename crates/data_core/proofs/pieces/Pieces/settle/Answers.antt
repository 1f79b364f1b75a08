use Rattle.std.proofs.Common.{ap, ◌∙◌}
use Rattle.data_core.proofs.Placed.{known_names, known_settled}
use Rattle.data_core.proofs.Allowed.{may_settle}
use Rattle.data_core.specs.Written.{text_written}
use Rattle.data_core.proofs.TextStays.{names_text, settled_text}
use Rattle.data_core.proofs.pieces.Pieces.settle.Goals as goal

pub settle-requires : goal.settle-requires
settle-requires g c =
    let p = c.self.inside in
    may_settle p.place c.in-Some.point c.in-Some.is (g.F.Folder.state p.folder) (g.F.Folder.state c.tell_names.new.self) c.self.invariant c.if-not-tell_names.ensures.moves

pub invariant_of-self-2 : goal.invariant_of-self-2
invariant_of-self-2 g c =
    let p = c.self.inside in
    let told = g.F.Folder.state c.tell_names.new.self in
    let at = known_names g.D.Dumping.is_dump g.D.Dumping.none (g.F.Folder.state p.folder) told (g.met.F.Folder.reached p.folder) p.place c.self.invariant c.if-not-tell_names.ensures.moves in
    known_settled g.D.Dumping.is_dump g.D.Dumping.none told (g.F.Folder.state c.settle.new.self) (g.met.F.Folder.reached c.tell_names.new.self) p.place c.in-Some.point at c.settle.ensures.moves

pub returns-clause-text : goal.returns-clause-text
returns-clause-text g c =
    let p = c.self.inside in
    let old = g.F.Folder.state p.folder in
    let told = g.F.Folder.state c.tell_names.new.self in
    let at = known_names g.D.Dumping.is_dump g.D.Dumping.none old told (g.met.F.Folder.reached p.folder) p.place c.self.invariant c.if-not-tell_names.ensures.moves in
    settled_text g.D.Dumping.is_dump g.D.Dumping.none told (g.F.Folder.state c.settle.new.self) (g.met.F.Folder.reached c.tell_names.new.self) p.place c.in-Some.point at c.settle.ensures.moves
    ∙ (names_text g.D.Dumping.is_dump g.D.Dumping.none old told (g.met.F.Folder.reached p.folder) p.place c.self.invariant c.if-not-tell_names.ensures.moves ∙ ap (λ v. text_written (g.F.Folder.state v.folder)) c.self.view_is)

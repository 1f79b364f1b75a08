use Rattle.std.proofs.Common.{◌≡◌, ◌<◌, None, false, rules, ap, ◌∙◌}
use Rattle.data_core.proofs.Placed.{known_begun}
use Rattle.data_core.proofs.Allowed.{may_begin}
use Rattle.data_core.specs.Written.{text_written}
use Rattle.data_core.proofs.TextStays.{begun_text}
use Rattle.data_core.proofs.pieces.Pieces.begin_piece.Goals as goal

pub begin_piece-requires : goal.begin_piece-requires
begin_piece-requires g c =
    let p = c.self.inside in
    let no_put : p.place.put ≡ None = search rules in
    let some : p.place.first < p.place.told = search rules in
    may_begin g.D.Dumping.is_dump g.D.Dumping.none p.place no_put some (g.F.Folder.state p.folder) (g.met.F.Folder.reached p.folder) c.self.invariant

pub invariant_of-self-2 : goal.invariant_of-self-2
invariant_of-self-2 g c =
    let p = c.self.inside in
    let no_put : p.place.put ≡ None = search rules in
    let ended : p.place.is_in_line ≡ false = search rules in
    known_begun g.D.Dumping.is_dump g.D.Dumping.none (g.F.Folder.state p.folder) (g.F.Folder.state c.begin_piece.new.self) (g.met.F.Folder.reached p.folder) p.place c.in-Ok.first no_put ended c.self.invariant c.in-Ok.ensures.point c.in-Ok.ensures.moves

pub returns-clause-text : goal.returns-clause-text
returns-clause-text g c =
    let p = c.self.inside in
    let old = g.F.Folder.state p.folder in
    let ended : p.place.is_in_line ≡ false = search rules in
    begun_text g.D.Dumping.is_dump g.D.Dumping.none old (g.F.Folder.state c.begin_piece.new.self) (g.met.F.Folder.reached p.folder) p.place ended c.self.invariant c.in-Ok.ensures.moves ∙ ap (λ v. text_written (g.F.Folder.state v.folder)) c.self.view_is

use Rattle.std.proofs.Common.{◌≡◌, ◌<◌, ◌≤◌, None, IfSome, subst, sym, rules, ap, ◌∙◌}
use Rattle.data_core.specs.Tending.{IsDumpOfFront}
use Rattle.data_core.proofs.Allowed.{may_put}
use Rattle.data_core.proofs.Placed.{known_put}
use Rattle.data_core.specs.Written.{text_written}
use Rattle.data_core.proofs.TextStays.{put_text}
use Rattle.data_core.proofs.pieces.Pieces.put.Goals as goal

pub put-requires : goal.put-requires
put-requires g c =
    let p = c.self.inside in
    let lines = g.F.Folder.lines_of c.args.dump in
    let no_put : p.place.put ≡ None = search rules in
    let newer : p.place.base < c.args.point = search rules in
    let starts : p.place.first ≤ c.args.point = search rules in
    let on_disk : c.args.point ≤ p.place.told = search rules in
    let dumps = subst (λ v. IfSome (g.F.Folder.state v.folder) (IsDumpOfFront g.D.Dumping.is_dump c.args.point lines)) (sym c.self.view_is) c.requires in
    may_put g.D.Dumping.is_dump g.D.Dumping.none p.place c.args.point lines no_put newer starts on_disk (g.F.Folder.state p.folder) (g.met.F.Folder.reached p.folder) c.self.invariant dumps

pub invariant_of-self-2 : goal.invariant_of-self-2
invariant_of-self-2 g c =
    let p = c.self.inside in
    known_put g.D.Dumping.is_dump g.D.Dumping.none (g.F.Folder.state p.folder) (g.F.Folder.state c.put.new.self) (g.met.F.Folder.reached p.folder) p.place c.args.point (g.F.Folder.lines_of c.args.dump) c.self.invariant c.in-Ok.ensures.moves

pub returns-clause-text : goal.returns-clause-text
returns-clause-text g c =
    let p = c.self.inside in
    let old = g.F.Folder.state p.folder in
    put_text g.D.Dumping.is_dump g.D.Dumping.none old (g.F.Folder.state c.put.new.self) (g.met.F.Folder.reached p.folder) p.place c.args.point (g.F.Folder.lines_of c.args.dump) c.self.invariant c.in-Ok.ensures.moves ∙ ap (λ v. text_written (g.F.Folder.state v.folder)) c.self.view_is
